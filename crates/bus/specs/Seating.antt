-- What a step without a request does to a seat.
use Rattle.std.specs.Prelude.{◌≡◌, ◌≢◌, ◌⊎◌, ◌<◌, ◌≤◌, ◌+◌}
use Rattle.hart.specs.declared.state.HartState.{HartState}
use Rattle.hart.specs.declared.state.Status.TheVariants.{Running}
use Rattle.hart.specs.declared.need.Request.{Request}
use Rattle.machine.specs.Represents.{text_bytes}
use Rattle.bus.specs.declared.outcome.Outcome.{Outcome}
use Rattle.bus.specs.declared.outcome.Outcome.TheVariants.{Stopped, Spent}
use Rattle.bus.specs.Alone.{Asks, StepsAlone}
use Rattle.bus.specs.Seats.{SeatView, outcome_of}

-- the seat runs, has budget left, and its next step is a request
pub record AsksNext (seat : SeatView) : Type 0 where
  pub request : Request
  pub left : seat.made < seat.budget
  pub asks : Asks (text_bytes seat.copy) seat.state request

-- nothing changes, since the hart had stopped
pub record HasStopped (old new : SeatView) (outcome : Outcome) : Type 0 where
  pub same : new ≡ old
  pub stopped : old.state.status ≢ Running
  pub answer : outcome ≡ Stopped

-- nothing changes, since the hart runs and its budget is used up
pub record IsSpent (old new : SeatView) (outcome : Outcome) : Type 0 where
  pub same : new ≡ old
  pub running : old.state.status ≡ Running
  pub spent : old.budget ≤ old.made
  pub answer : outcome ≡ Spent

-- the hart goes on, exits or traps without a request, and the step is counted
pub record StepsLocally (old new : SeatView) (outcome : Outcome) : Type 0 where
  pub left : old.made < old.budget
  pub after : HartState
  pub steps : StepsAlone (text_bytes old.copy) old.state after
  pub counted : new ≡ record old { made = old.made + 1; state = after; since = old.since + 1 }
  pub answer : outcome ≡ outcome_of after.status

-- what a seat does whose next step is no request
abbrev pub IsLocalStep : SeatView → SeatView → Outcome → Type 0
IsLocalStep old new outcome = HasStopped old new outcome ⊎ (IsSpent old new outcome ⊎ StepsLocally old new outcome)
