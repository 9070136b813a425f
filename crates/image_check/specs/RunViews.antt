-- What a contract sees of a run whose moments are judged.
use Rattle.std.specs.Prelude.{ℕ, List}
use Rattle.plan.specs.declared.operation.Operation.{Operation}
use Rattle.store_trace.specs.declared.event.Event.{Event}

-- the operations of the plan, the lines of the starting medium, and the events, the oldest first
pub record RunView : Type 0 where
  pub plan : List Operation
  pub start : List (List ℕ)
  pub events : List Event
