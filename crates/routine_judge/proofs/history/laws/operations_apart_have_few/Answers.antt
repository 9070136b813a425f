use Rattle.routine_judge.proofs.Alone.{none_through}
use Rattle.routine_judge.proofs.history.laws.operations_apart_have_few.Goals as goal

pub returns : goal.returns
returns c = none_through
