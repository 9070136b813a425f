use Rattle.std.proofs.Common.{rules}
use Rattle.report.proofs.losses.mend.NamedMendDisplay.fmt.Goals as goal

pub returns-in-CleanAndFence-clause-writes : goal.returns-in-CleanAndFence-clause-writes
returns-in-CleanAndFence-clause-writes g c = rw c.in-CleanAndFence.is (search rules)
