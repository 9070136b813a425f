use Rattle.routine_judge.proofs.Alone.{alone_only}
use Rattle.routine_judge.proofs.history.laws.alone_is_the_only_one.Goals as goal

pub returns : goal.returns
returns c = alone_only
