use Rattle.verdict_tests.proofs.Mixing.{first_line, second_line}
use Rattle.verdict_tests.proofs.images.either_medium.EitherMediumImages.line.Goals as goal

pub returns-then-number-eq0 : goal.returns-then-number-eq0
returns-then-number-eq0 c = λ cut same.
    let either = c.args.self.now in
    first_line either.first.now either.second.now cut c.args.line c.args.number c.read_line.result.now either.size same c.if-number-eq0.true c.read_line.ensures.value

pub returns-else-number-eq0 : goal.returns-else-number-eq0
returns-else-number-eq0 c = λ cut same.
    let either = c.args.self.now in
    second_line either.first.now either.second.now cut c.args.line c.args.number c.read_line-else-number-eq0.result.now either.size same c.if-number-eq0.false
    c.read_line-else-number-eq0.ensures.value
