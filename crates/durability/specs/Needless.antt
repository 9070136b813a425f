-- A clean or a fence of a list of events that changes no floor.
-- Source: RISC-V CMO specification 1.0, chapter 2 (a clean asks for a write-back), and this model's rule that a fence completes the
-- cleans of its own hart.
use Rattle.std.specs.Prelude.{◌≡◌, ◌≢◌, ℕ, List, ◌∷◌, ◌++◌, take}
use Rattle.store_trace.specs.Floor.{floor}
use Rattle.store_trace.specs.History.{history}
use Rattle.store_trace.specs.declared.event.Event.{Event}
use Rattle.store_trace.specs.declared.event.Event.TheVariants.{Store, Clean, Fence, Begin, End}

-- what a routine can be made faster by leaving out
abbrev pub IsCleanOrFence : Event → Type 0
IsCleanOrFence (Store hart line offset width value) = ⊥
IsCleanOrFence (Clean hart line) = Unit {0}
IsCleanOrFence (Fence hart) = Unit {0}
IsCleanOrFence (Begin hart op) = ⊥
IsCleanOrFence (End hart op) = ⊥

-- Leaving out the clean or the fence that stands between `before` and `after` changes no floor: that of each line is the same with
-- it and without it, right after it and after each further event.
pub record IsNeedless (before : List Event) (event : Event) (after : List Event) : Type 0 where
  pub kind : IsCleanOrFence event
  pub same : (l m : ℕ) → floor l (history (before ++ (event ∷ take m after))) ≡ floor l (history (before ++ take m after))

-- leaving it out changes a floor: that of this line after this many further events
pub record ChangesFloor (before : List Event) (event : Event) (after : List Event) : Type 0 where
  pub line : ℕ
  pub further : ℕ
  pub changes : floor line (history (before ++ take further after)) ≢ floor line (history (before ++ (event ∷ take further after)))
