use Rattle.nova_log.proofs.Again.{again}
use Rattle.nova_log.proofs.log_upgrade.laws.upgraded_again.Goals as goal

pub returns : goal.returns
returns c made pages lines e = again c.args.medium.now made pages lines c.is_of_bytes.ensures e
