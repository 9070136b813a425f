use Rattle.std.proofs.Common.{◌≡◌, length}
use Rattle.machine.specs.Steps.{all_steps}
use Rattle.machine.specs.Evicting.{hart_steps}
use Rattle.witness.proofs.recorded_steps.first_run.Given as goal

abbrev pub invariant-loop-first : goal.invariant-loop-first
invariant-loop-first l = hart_steps (all_steps l.items) ≡ hart_steps (all_steps l.rest)

abbrev pub decreases-loop-first : goal.decreases-loop-first
decreases-loop-first l = length l.rest
