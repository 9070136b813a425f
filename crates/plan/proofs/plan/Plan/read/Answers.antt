use Rattle.std.proofs.Common.{arith}
use Rattle.plan.proofs.Reading.{asks_at, ends_early, line_at_fault, one_more_read, one_plan_read, refused_is_none}
use Rattle.plan.proofs.plan.Plan.read.Goals as goal

pub loop-line-preserved : goal.loop-line-preserved
loop-line-preserved c =
    (one_more_read _ _ _ _ _ _ _ c.loop-line.invariant.0 c.in-Some.ensures.lines c.in-Ok.ensures.ok, omega (arith, c.loop-line.invariant.1, c.in-Some.ensures.shorter))

pub returns-in-Err-clause-err : goal.returns-in-Err-clause-err
returns-in-Err-clause-err c = line_at_fault _ _ _ _ _ _ _ c.loop-line.invariant.0 c.in-Some.ensures.lines c.in-Err.ensures.err

pub returns-in-Err-clause-none : goal.returns-in-Err-clause-none
returns-in-Err-clause-none c =
    refused_is_none _ _ _ (line_at_fault _ _ _ _ _ _ _ c.loop-line.invariant.0 c.in-Some.ensures.lines c.in-Err.ensures.err)

pub returns-in-Some-finished-clause-only : goal.returns-in-Some-finished-clause-only
returns-in-Some-finished-clause-only c =
    one_plan_read _ _ _ _ _ c.loop-line.invariant.0 c.in-Some-finished.ensures c.in_default.ensures.lines

pub returns-in-None-clause-err : goal.returns-in-None-clause-err
returns-in-None-clause-err c = ends_early _ _ _ _ c.loop-line.invariant.0 c.in_default.ensures.lines c.in-None.ensures

pub returns-in-Err-clause-memory : goal.returns-in-Err-clause-memory
returns-in-Err-clause-memory c memory = asks_at _ _ _ _ _ _ c.loop-line.invariant.0 c.in-Some.ensures.lines (c.in-Err.ensures.memory memory)
