use Rattle.store_trace.specs.Cut.{number_in}
use Rattle.std.proofs.Common.{All}
use Rattle.machine.specs.Joined.{HasSteps}
use Rattle.machine.specs.Steps.{all_steps}
use Rattle.witness.proofs.Following.{IsAt}
use Rattle.witness.proofs.explaining.explained.Given as goal

abbrev pub invariant-loop-index : goal.invariant-loop-index
invariant-loop-index l = IsAt l.recorded (number_in l.entries) l.last l.index l.steps (all_steps l.schedule) l.due.items × All HasSteps l.schedule
