-- There are two lines at least.
use Rattle.std.proofs.Common.{arith}
use Rattle.verdict_tests.proofs.images.asked.AskedAnswering.answer.Goals as goal

pub returns-clause-there : goal.returns-clause-there
returns-clause-there c = λ line is.
    let low = c.in_ok-reply.ensures line is in omega (arith, low, c.if-lines-lt2.false, c.lines.ensures)
