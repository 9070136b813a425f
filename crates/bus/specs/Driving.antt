-- What the thread of a seat comes to.
use Rattle.std.specs.Prelude.{◌≡◌, ◌≢◌, ◌⊎◌, ◌≤◌, ℕ, Bool, true, false, Option, Some, None}
use Rattle.hart.specs.declared.state.Status.TheVariants.{Running}
use Rattle.machine.specs.declared.shared_memory.fault.StepFault.{StepFault}
use Rattle.workers.specs.Stops.{HasSeen, Sitting}
use Rattle.bus.specs.declared.outcome.Outcome.{Outcome}
use Rattle.bus.specs.declared.outcome.Outcome.TheVariants.{Done, Exited, Trapped, Stopped, Spent}
use Rattle.bus.specs.declared.driving.Round.{Round}
use Rattle.bus.specs.declared.driving.Round.TheVariants as rounds
use Rattle.bus.specs.Seats.{SeatView}
use Rattle.bus.specs.Stepping.{IsStepRefusal}

-- the hart has stopped, or it has made its budget of steps
abbrev pub HasEnded : SeatView → Type 0
HasEnded seat = (seat.state.status ≢ Running) ⊎ (seat.made ≡ seat.budget)

-- the hart has stopped, or no step of its budget is left
abbrev pub IsAtEnd : SeatView → Type 0
IsAtEnd seat = (seat.state.status ≢ Running) ⊎ (seat.budget ≤ seat.made)

-- the number of a seat's hart, and how many steps it may make
abbrev pub badge : SeatView → ℕ × ℕ
badge seat = (seat.hart, seat.budget)

-- no step follows
abbrev pub is_last : Outcome → Bool
is_last Done = false
is_last (Exited code) = true
is_last (Trapped trap) = true
is_last Stopped = true
is_last Spent = true

abbrev pub round_of : Bool → Round
round_of true = rounds.Ends
round_of false = rounds.GoesOn

abbrev pub round_after : Outcome → Round
round_after outcome = round_of (is_last outcome)

-- after a round the thread goes on, and has neither raised the word nor seen it raised; or it ends without having raised the word, since the seat has ended or the word was seen
-- raised; or it ends since a step was refused, and has raised the word
abbrev pub IsRound : SeatView → Sitting → Sitting → Round → Type 0
IsRound seat old new rounds.GoesOn = (new.raised ≡ old.raised) × (HasSeen new → ⊥)
IsRound seat old new rounds.Ends = (new.raised ≡ old.raised) × (IsAtEnd seat ⊎ HasSeen new)
IsRound seat old new (rounds.Refused fault) = IsStepRefusal fault × (new.raised ≡ true)

-- what a thread hands back that began with a seat of this badge and with a place at the stop word that hadn't raised it: the
-- same seat, which has ended where no step of it was refused and its thread never saw the word raised; where one was refused, the
-- thread has raised the word
pub record IsDriven (began : ℕ × ℕ) (place : Sitting) (seat : SeatView) (stop : Sitting) (refused : Option StepFault) : Type 0 where
  pub same : badge seat ≡ began
  pub word : stop.table ≡ place.table
  pub cause : (fault : StepFault) → refused ≡ Some fault → IsStepRefusal fault
  pub raises : (fault : StepFault) → refused ≡ Some fault → stop.raised ≡ true
  pub quiet : refused ≡ None → stop.raised ≡ false
  pub ended : refused ≡ None → HasEnded seat ⊎ HasSeen stop
