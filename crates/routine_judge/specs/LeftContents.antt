-- What power cuts leave of the contents of a line, while the events of a run are read, the oldest first.
use Rattle.std.specs.Prelude.{◌≡◌, ◌⊎◌, ◌↔◌, ℕ, ◌+◌, ◌-◌, ◌==◌, Bool, false, if◌then◌else◌, nat_le, List, [], ◌∷◌}
use Rattle.std.specs.List.{Contains}
use Rattle.recovery.specs.Boxes.{after_each}
use Rattle.routine_judge.specs.declared.cuts.left.LineSoFar.{LineSoFar}
use Rattle.store_trace.specs.Image.{line_after}
use Rattle.store_trace.specs.Stores.{stores}
use Rattle.store_trace.specs.declared.crash_model.step.PersistenceStep.{PersistenceStep}
use Rattle.store_trace.specs.declared.event.Event.{Event}
use Rattle.store_trace.specs.declared.event.Event.TheVariants.{Store, Clean, Fence, Begin, End}

-- two lists have the same contents, however often
abbrev pub HaveSame : List (List ℕ) → List (List ℕ) → Type 0
HaveSame some others = (bytes : List ℕ) → Contains some bytes ↔ Contains others bytes

-- a list has the contents of another one and these
abbrev pub IsUnion : List (List ℕ) → List (List ℕ) → List (List ℕ) → Type 0
IsUnion old more new = (bytes : List ℕ) → Contains new bytes ↔ (Contains old bytes ⊎ Contains more bytes)

-- whether an event is a store of line l
abbrev pub is_store_of : ℕ → Event → Bool
is_store_of l (Store hart line offset width value) = line == l
is_store_of l (Clean hart line) = false
is_store_of l (Fence hart) = false
is_store_of l (Begin hart op) = false
is_store_of l (End hart op) = false

-- a line, which started with these bytes, as it is after these steps
pub record IsLineAfter (start : List ℕ) (p : List PersistenceStep) (line : LineSoFar) : Type 0 where
  pub count : line.stores ≡ stores line.line p
  pub made : line.bytes ≡ line_after start line.line (stores line.line p) p

-- the bytes of a line, where it has had enough stores for cuts to leave them
abbrev pub left_now : LineSoFar → List (List ℕ)
left_now line = if nat_le line.low line.stores then line.bytes ∷ [] else []

-- the bytes of line l after each number of its stores, from this one to all of them
abbrev pub after_all : List ℕ → ℕ → List PersistenceStep → ℕ → List (List ℕ)
after_all start l p low = after_each start l p low (stores l p + 1 - low)

-- these steps were read: what cuts leave of the line, so far, is in the list beside what was there before
pub record IsReadTo (start : List ℕ) (p : List PersistenceStep) (before : List (List ℕ)) (line : LineSoFar) (left : List (List ℕ)) : Type 0 where
  pub after : IsLineAfter start p line
  pub added : IsUnion before (after_all start line.line p line.low) left
