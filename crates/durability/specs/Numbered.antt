-- Events by their numbers, and the first event of a kind.
use Rattle.std.specs.Prelude.{◌≡◌, ℕ, zero, suc, ◌<◌, ◌≤◌, List, Option, Some, None, slice_get}
use Rattle.store_trace.specs.declared.event.Event.{Event}
use Rattle.store_trace.specs.declared.event.Event.TheVariants.{Store, Clean, Fence}

-- event n of a run: its number is that of the moment right after it, so that the first is event 1
abbrev pub event_at : List Event → ℕ → Option Event
event_at events zero = None
event_at events (suc place) = slice_get events place

-- event n is a store of hart h to line l
pub record IsStore (events : List Event) (h l n : ℕ) : Type 0 where
  pub offset : ℕ
  pub width : ℕ
  pub value : ℕ
  pub is : event_at events n ≡ Some (Store h l offset width value)

-- event n is a clean of line l by hart h, after event e
pub record IsCleanOf (events : List Event) (h l e n : ℕ) : Type 0 where
  pub later : e < n
  pub is : event_at events n ≡ Some (Clean h l)

-- event n is a fence of hart h, after event e
pub record IsFence (events : List Event) (h e n : ℕ) : Type 0 where
  pub later : e < n
  pub is : event_at events n ≡ Some (Fence h)

-- n is the first number of which P holds
pub record IsFirst (P : ℕ → Type 0) (n : ℕ) : Type 0 where
  pub holds : P n
  pub first : (k : ℕ) → P k → n ≤ k

-- the first number of which P holds, and None where P holds of no number
abbrev pub IsFirstIfAny : (ℕ → Type 0) → Option ℕ → Type 0
IsFirstIfAny P None = (n : ℕ) → ¬ P n
IsFirstIfAny P (Some n) = IsFirst P n
