use Rattle.std.proofs.Common.{sym}
use Rattle.verdict.proofs.Numbering.{numbers_first}
use Rattle.verdict_tests.proofs.images.branches_opened.SmallRecovery.is_first.Goals as goal

pub returns : goal.returns
returns c = sym (numbers_first c.args.asked 0 c.args._number c.requires.number.0)
