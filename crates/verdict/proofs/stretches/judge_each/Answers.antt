use Rattle.std.proofs.Common.{◌≡◌, arith}
use Rattle.verdict.proofs.Stretching.{found_fail}
use Rattle.verdict.proofs.stretches.judge_each.Goals as goal

pub returns-in-Some-clause-bad : goal.returns-in-Some-clause-bad
returns-in-Some-clause-bad g c = λ verdict from until e f l before.
    let same : c.in-Some.verdict ≡ verdict = cc in
    found_fail (g.M.Moments.judged c.args.run.now) (g.M.Moments.events c.args.run.now) from until c.args.first c.loop-moment.moment c.in_ok-found.found
    c.in-Some.verdict verdict c.in-Some.is same c.in_ok-found.ensures.bad c.loop-moment.invariant.1 (omega (arith, f, c.loop-moment.auto.moment))
    (omega (arith, l, c.loop-moment-test.true)) before
