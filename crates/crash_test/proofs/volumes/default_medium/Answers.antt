use Rattle.std.proofs.Common.{rules}
use Rattle.crash_test.proofs.volumes.default_medium.Goals as goal

pub returns-clause-ok : goal.returns-clause-ok
returns-clause-ok c = search rules
