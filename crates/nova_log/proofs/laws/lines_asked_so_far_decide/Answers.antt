use Rattle.nova_log.proofs.Tracking.{next_asked}
use Rattle.nova_log.proofs.laws.lines_asked_so_far_decide.Goals as goal

pub returns : goal.returns
returns c = next_asked
