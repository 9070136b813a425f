use Rattle.nova_log.proofs.Agreement.{same_recovery}
use Rattle.nova_log.proofs.laws.asked_lines_decide.Goals as goal

pub returns : goal.returns
returns c = same_recovery
