-- What of persistence steps decides all that may come: of each line the number of its stores, its floor, what each hart cleaned, and its
-- bytes after its first stores.
use Rattle.std.specs.Prelude.{ℕ, ◌+◌, ◌==◌, ◌&&◌, nat_lt, List, [], ◌∷◌, if◌then◌else◌, max, ◌≢◌}
use Rattle.word_bits.specs.Bytes.{stored}
use Rattle.store_trace.specs.Floor.{cleaned, floor}
use Rattle.store_trace.specs.Image.{line_after}
use Rattle.store_trace.specs.Stores.{stores}
use Rattle.store_trace.specs.declared.crash_model.step.PersistenceStep.{PersistenceStep}
use Rattle.store_trace.specs.declared.crash_model.step.PersistenceStep.TheVariants.{Store, Clean, Fence, Evict}

pub record Persisted : Type 0 where
  pub stores : ℕ → ℕ
  pub floor : ℕ → ℕ
  pub cleaned : ℕ → ℕ → ℕ
  pub line : List ℕ → ℕ → ℕ → List ℕ

abbrev pub persisted : List PersistenceStep → Persisted
persisted p = record {
  stores = λ l. stores l p;
  floor = λ l. floor l p;
  cleaned = λ l h. cleaned l h p;
  line = λ start l k. line_after start l k p;
}

-- after one more step
abbrev pub with_step : Persisted → PersistenceStep → Persisted
with_step v (Store m offset width value) = record v {
  stores = λ l. if m == l then v.stores l + 1 else v.stores l;
  line = λ start l k. if (m == l) && nat_lt (v.stores l) k then stored (v.line start l k) offset width value else v.line start l k;
}
with_step v (Clean g m) = record v { cleaned = λ l h. if (g == h) && (m == l) then v.stores l else v.cleaned l h }
with_step v (Fence g) = record v { floor = λ l. max (v.floor l) (v.cleaned l g) }
with_step v (Evict m) = v

-- after more of them, the newest first
abbrev pub with_steps : Persisted → List PersistenceStep → Persisted
with_steps v [] = v
with_steps v (step ∷ steps) = with_step (with_steps v steps) step

-- a step of another hart than this one, which neither stores to the line nor cleans it
abbrev pub IsApart : ℕ → ℕ → PersistenceStep → Type 0
IsApart h l (Store m offset width value) = m ≢ l
IsApart h l (Clean g m) = m ≢ l
IsApart h l (Fence g) = g ≢ h
IsApart h l (Evict m) = Unit {0}
