-- What the one hart of a setup makes, or why it doesn't.
use Rattle.std.proofs.Common.{arith, refl}
use Rattle.machine.specs.RunValues.{setup}
use Rattle.crash_test.proofs.Alone.{fails_alone, few_alone, has_run_alone, left_alone}
use Rattle.crash_test.proofs.Together.{is_run_of}
use Rattle.crash_test.proofs.runs.run_within.Goals as goal

pub returns-in-Ok-clause-ok : goal.returns-in-Ok-clause-ok
returns-in-Ok-clause-ok c =
    has_run_alone (setup c.args.program c.args.medium 1 c.args.capacity) c.args.steps c.in-Ok.recorded
    c.requires.within refl c.in-Ok.ensures.ok
    c.in-Ok.ensures.start c.in-Ok.ensures.capacity c.in-Ok.ensures.steps

pub returns-in-Ok-clause-run : goal.returns-in-Ok-clause-run
returns-in-Ok-clause-run c =
    is_run_of (setup c.args.program c.args.medium 1 c.args.capacity) c.args.steps c.in-Ok.recorded
    (has_run_alone (setup c.args.program c.args.medium 1 c.args.capacity) c.args.steps c.in-Ok.recorded
    c.requires.within refl c.in-Ok.ensures.ok
    c.in-Ok.ensures.start c.in-Ok.ensures.capacity c.in-Ok.ensures.steps)
    c.trace.ensures.limit c.left.ensures.lines

pub returns-in-Ok-clause-left : goal.returns-in-Ok-clause-left
returns-in-Ok-clause-left c =
    left_alone (setup c.args.program c.args.medium 1 c.args.capacity) c.in-Ok.recorded c.in-Ok.ensures.capacity c.in-Ok.ensures.exact

pub returns-in-Ok-clause-few : goal.returns-in-Ok-clause-few
returns-in-Ok-clause-few c =
    let few = few_alone (setup c.args.program c.args.medium 1 c.args.capacity) c.args.steps c.in-Ok.recorded c.requires.within.2 c.in-Ok.ensures.steps in
    omega arith

pub returns-in-Err-clause-err : goal.returns-in-Err-clause-err
returns-in-Err-clause-err c =
    fails_alone (setup c.args.program c.args.medium 1 c.args.capacity) c.args.steps c.in-Err.stop c.requires.within refl c.in-Err.ensures.err
