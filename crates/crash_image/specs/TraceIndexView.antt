-- What a contract sees of the index of a trace.
use Rattle.std.specs.Prelude.{ℕ, List}
use Rattle.store_trace.specs.declared.event.Event.{Event}

-- the lines of the starting medium, and the events, the oldest first
pub record IndexView : Type 0 where
  pub start : List (List ℕ)
  pub events : List Event
