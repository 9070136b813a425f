-- The marks of operations among the events that a request makes.
use Rattle.std.specs.Prelude.{◌≡◌, ◌⊎◌, ◌++◌, ◌∷◌, [], List, Option, Some, None, IsSome}
use Rattle.store_trace.specs.Marks.{begun_by, ended_by}
use Rattle.store_trace.specs.declared.event.Event.{Event}

-- the event marks no operation
pub record IsUnmarked (event : Event) : Type 0 where
  pub begun : begun_by event ≡ None
  pub ended : ended_by event ≡ None

-- the event begins or ends an operation
abbrev pub IsMark : Event → Type 0
IsMark event = IsSome (begun_by event) ⊎ IsSome (ended_by event)

-- one more event came, which marks no operation
pub record IsOneMore (before after : List Event) : Type 0 where
  pub event : Event
  pub unmarked : IsUnmarked event
  pub is : after ≡ before ++ event ∷ []

-- this mark of an operation came, or where there is none at most an event that marks no operation
abbrev pub IsMarkedBy : Option Event → List Event → List Event → Type 0
IsMarkedBy (Some mark) before after = IsMark mark × (after ≡ before ++ mark ∷ [])
IsMarkedBy None before after = (after ≡ before) ⊎ IsOneMore before after
