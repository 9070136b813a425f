use Rattle.std.proofs.Common.{◌≤◌, ◌-◌, All, max}
use Rattle.machine.specs.Joined.{HasSteps}
use Rattle.machine.specs.Steps.{all_steps}
use Rattle.witness.specs.Walking.{TakesSteps}
use Rattle.witness.proofs.recorded_steps.RecordedSteps.copy_through.Given as goal

abbrev pub invariant-loop-self : goal.invariant-loop-self
invariant-loop-self l =
    TakesSteps l.initial.self l.self (all_steps l.initial.schedule) (all_steps l.schedule) × (l.self.taken ≤ max l.initial.self.taken l.number)
    × (All HasSteps l.initial.schedule → All HasSteps l.schedule)

abbrev pub decreases-loop-self : goal.decreases-loop-self
decreases-loop-self l = l.number - l.self.taken
