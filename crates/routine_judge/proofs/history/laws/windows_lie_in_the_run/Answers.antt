use Rattle.routine_judge.proofs.Alone.{either_inside, through_inside}
use Rattle.routine_judge.proofs.history.laws.windows_lie_in_the_run.Goals as goal

pub returns : goal.returns
returns c = record { either = either_inside; through = through_inside }
