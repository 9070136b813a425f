use Rattle.std.proofs.Common.{rules}
use Rattle.crash_test.proofs.volumes.make_volume.Goals as goal

pub returns-clause-ok : goal.returns-clause-ok
returns-clause-ok c = search rules

pub returns-clause-counts : goal.returns-clause-counts
returns-clause-counts c = search rules
