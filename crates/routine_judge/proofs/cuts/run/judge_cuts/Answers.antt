use Rattle.routine_judge.proofs.WidePassing.{wide_judged}
use Rattle.routine_judge.proofs.cuts.run.judge_cuts.Goals as goal

pub returns-in-Some-clause-ok : goal.returns-in-Some-clause-ok
returns-in-Some-clause-ok c =
    let view = c.args.run.now in
    let window = c.args.judge.now.judge.answers.window in
    wide_judged c.args.most view window c.in-Some.pass c.args.moment c.in-Some.ensures.here (c.in-Some.ensures.passes c.args.most view window c.requires.stands.passed)

pub returns-in-Some-clause-stands : goal.returns-in-Some-clause-stands
returns-in-Some-clause-stands c =
    let view = c.args.run.now in
    let window = c.args.judge.now.judge.answers.window in
    record { stands = c.requires.stands.stands; passed = c.in-Some.ensures.passes c.args.most view window c.requires.stands.passed }

pub returns-clause-stands : goal.returns-clause-stands
returns-clause-stands c = record { stands = c.in_ok-opened.ensures.stands; passed = c.in_ok-opened.ensures.wide }
