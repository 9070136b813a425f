use Rattle.routine_judge.proofs.Alone.{pending_iff}
use Rattle.routine_judge.proofs.history.laws.pending_operations_began.Goals as goal

pub returns : goal.returns
returns c = pending_iff
