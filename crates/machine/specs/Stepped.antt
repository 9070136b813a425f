-- What a step does that is made.
use Rattle.std.specs.Prelude.{◌≡◌, ◌+◌, [], ◌∷◌, length}
use Rattle.machine.specs.declared.machine.Outcome.{Outcome}
use Rattle.machine.specs.declared.schedule.items.Step.{Step}
use Rattle.machine.specs.Outcomes.{MakesEvent, outcome_after}
use Rattle.machine.specs.Represents.{MachineView, Runs, RunsExactly}

-- the machine has made the step, and answers by its hart's status before and after: it runs that one step, exactly too, and its
-- trace is one longer where the step makes an event
pub record HasStepped (old new : MachineView) (step : Step) (outcome : Outcome) : Type 0 where
  pub outcome_is : outcome ≡ outcome_after old.harts new.harts step
  pub runs : Runs old new (step ∷ [])
  pub exact : RunsExactly old new (step ∷ [])
  pub event : MakesEvent old step → length new.shared.trace ≡ length old.shared.trace + 1
