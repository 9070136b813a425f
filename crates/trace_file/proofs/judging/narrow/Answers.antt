use Rattle.std.proofs.Common.{arith}
use Rattle.trace_file.proofs.judging.narrow.Goals as goal

pub returns-in_err-kept-clause-none : goal.returns-in_err-kept-clause-none
returns-in_err-kept-clause-none c = rw c.from_residual.ensures (λ n is. let past = c.in_err-kept.ensures.none n is in omega (arith, c.from.ensures))

pub returns-clause-some : goal.returns-clause-some
returns-clause-some c = λ n is. let kept = c.in_ok-kept.ensures.some n is in (kept.0, omega (arith, c.from.ensures))
