use Rattle.std.proofs.Common.{arith, refl}
use Rattle.routine_judge.proofs.WidePassing.{still_passed}
use Rattle.routine_judge.proofs.cuts.wide.still_wide.Goals as goal

pub returns-clause-passes : goal.returns-clause-passes
returns-clause-passes c = λ most view window w.
    still_passed most view window c.args.passed c.in-Some.pass _ c.in-Some.is (omega arith) refl (omega arith) w
