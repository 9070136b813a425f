-- What a contract sees of a seat, and what a step of it answers.
use Rattle.std.specs.Prelude.{◌≡◌, ◌+◌, ◌≤◌, ℕ, List, [], ◌∷◌}
use Rattle.hart.specs.declared.state.HartState.{HartState}
use Rattle.hart.specs.declared.state.Status.{Status}
use Rattle.hart.specs.declared.state.Status.TheVariants as statuses
use Rattle.bus.specs.declared.exchange.Exchange.{Exchange}
use Rattle.bus.specs.declared.outcome.Outcome.{Outcome}
use Rattle.bus.specs.declared.outcome.Outcome.TheVariants.{Done, Exited, Trapped}

-- its hart's number, the loaded text, its budget of steps and how many of them it has made, the hart, the hart's copy of the
-- text, its requests with their replies, the newest first, and how many register steps came since the last of them
pub record SeatView : Type 0 where
  pub hart : ℕ
  pub text : List ℕ
  pub budget : ℕ
  pub made : ℕ
  pub state : HartState
  pub copy : List ℕ
  pub exchanges : List Exchange
  pub since : ℕ

-- how many steps a hart makes in its exchanges: of each the register steps that led to it, and the one that it replies to
abbrev pub steps_in : List Exchange → ℕ
steps_in [] = 0
steps_in (x ∷ xs) = (x.steps + 1) + steps_in xs

-- how many steps a seat has made: by its budget, of 500,000,000 at most, and those of its exchanges with the ones since
pub record AreCounted (made budget since : ℕ) (exchanges : List Exchange) : Type 0 where
  pub within : made ≤ budget
  pub limit : budget ≤ 500000000
  pub count : made ≡ steps_in exchanges + since

-- by a hart's status after a step that it made
abbrev pub outcome_of : Status → Outcome
outcome_of statuses.Running = Done
outcome_of (statuses.Exited code) = Exited code
outcome_of (statuses.Trapped trap) = Trapped trap
