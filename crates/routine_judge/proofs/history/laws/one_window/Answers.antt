use Rattle.routine_judge.proofs.Alone.{one_window}
use Rattle.routine_judge.proofs.history.laws.one_window.Goals as goal

pub returns : goal.returns
returns c = one_window
