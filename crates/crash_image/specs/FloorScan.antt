-- What is known of the lines while the steps are read from the newest back.
use Rattle.std.specs.Prelude.{◌≡◌, ℕ, suc, ◌+◌, ◌-◌, ◌<◌, ◌≤◌, ◌⊎◌, nat_lt, Bool, true, false, List, [], ◌∷◌, Option, Some, None, length, if◌then◌else◌, unwrap_or, slice_index_or}
use Rattle.store_trace.specs.Floor.{cleaned, floor}
use Rattle.store_trace.specs.Stores.{stores}
use Rattle.store_trace.specs.declared.crash_model.step.PersistenceStep.{PersistenceStep}
use Rattle.crash_image.specs.declared.bounds.LineBounds.{LineBounds}
use Rattle.crash_image.specs.declared.bounds.Tally.{Tally}

-- c is what the steps that are left still give line l, where these harts make a fence later
pub record IsReached (l : ℕ) (fenced : List Bool) (rest : List PersistenceStep) (c : ℕ) : Type 0 where
  pub fences : floor l rest ≤ c
  pub cleans : (h : ℕ) → slice_index_or fenced h false ≡ true → cleaned l h rest ≤ c
  pub reached : (c ≡ floor l rest) ⊎ ((h : ℕ) × (slice_index_or fenced h false ≡ true) × (c ≡ cleaned l h rest))

-- how many of a line's stores are newer than its newest completed clean, or that this is still to be found
abbrev pub IsFree : ℕ → List Bool → List PersistenceStep → List PersistenceStep → Option ℕ → Type 0
IsFree l fenced whole rest None = IsReached l fenced rest (floor l whole)
IsFree l fenced whole rest (Some free) = stores l whole ≡ floor l whole + free

-- the tally of line l with `left` events and these steps left of the whole
pub record IsTally (whole rest : List PersistenceStep) (left : ℕ) (fenced : List Bool) (l : ℕ) (tally : Tally) : Type 0 where
  pub few : tally.stores + left ≤ 65536
  pub seen : stores l whole ≡ tally.stores + stores l rest
  pub free : IsFree l fenced whole rest tally.free

-- the tallies of all lines
pub record AreTallies (whole rest : List PersistenceStep) (left : ℕ) (fenced : List Bool) (tallies : List Tally) : Type 0 where
  pub harts : length fenced ≡ 8
  pub each : (l : ℕ) (d : Tally) → l < length tallies → IsTally whole rest left fenced l (slice_index_or tallies l d)

-- a line's tally after a store
abbrev pub stored : Tally → Tally
stored tally = record tally { stores = tally.stores + 1 }

-- a line's tally after a clean, which a fence completed or didn't
abbrev pub cleaned_by : Bool → Tally → Tally
cleaned_by fenced tally = if fenced then record tally { free = Some (unwrap_or tally.free tally.stores) } else tally

-- the bounds that a tally of all steps shows
abbrev pub bounds_of : ℕ → Tally → LineBounds
bounds_of l tally = record {
  line = l;
  floor = tally.stores - unwrap_or tally.free tally.stores;
  stores = tally.stores;
}

-- the bounds of the stored lines among these, the first of which is line l
abbrev pub bounds_from : ℕ → List Tally → List LineBounds
bounds_from l [] = []
bounds_from l (tally ∷ tallies) =
    if nat_lt 0 tally.stores then bounds_of l tally ∷ bounds_from (suc l) tallies else bounds_from (suc l) tallies
