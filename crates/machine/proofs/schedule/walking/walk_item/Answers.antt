use Rattle.std.proofs.Common.{◌+◌, arith}
use Rattle.machine.proofs.Walks.{comes_on, comes_one, comes_past, halts_here}
use Rattle.machine.proofs.schedule.walking.walk_item.Goals as goal

pub returns-then-steps-count-clause-ok : goal.returns-then-steps-count-clause-ok
returns-then-steps-count-clause-ok g c =
    let makes = g.S.Stepper.makes in
    let several = comes_on makes g.met.S.Stepper.no_step g.met.S.Stepper.more_steps _ _ _ _ _ c.args.from.item _ _ c.loop-steps.steps
    c.equal_steps-step.ensures c.loop-steps.invariant c.make_several-steps.result (omega arith) c.make_several-steps.ensures.made in
    comes_past makes g.met.S.Stepper.no_step g.met.S.Stepper.more_steps _ _ _ _ c.args.from.item _ _ (c.loop-steps.steps + c.make_several-steps.result)
    c.equal_steps-step.ensures (omega arith) several

pub returns-in-Err-clause-err : goal.returns-in-Err-clause-err
returns-in-Err-clause-err g c =
    let makes = g.S.Stepper.makes in
    let several = comes_on makes g.met.S.Stepper.no_step g.met.S.Stepper.more_steps _ _ _ _ _ c.args.from.item _ _ c.loop-steps.steps
    c.equal_steps-step.ensures c.loop-steps.invariant c.make_several-steps.result (omega arith) c.make_several-steps.ensures.made in
    halts_here makes g.met.S.Stepper.no_step g.met.S.Stepper.more_steps _ _ _ _ _ c.args.from.item _ _ _
    c.equal_steps-step.ensures several g.S.Stepper.halts _ (omega arith) c.in-Err.ensures.err

pub loop-steps-preserved : goal.loop-steps-preserved
loop-steps-preserved g c =
    let makes = g.S.Stepper.makes in
    let several = comes_on makes g.met.S.Stepper.no_step g.met.S.Stepper.more_steps _ _ _ _ _ c.args.from.item _ _ c.loop-steps.steps
    c.equal_steps-step.ensures c.loop-steps.invariant c.make_several-steps.result (omega arith) c.make_several-steps.ensures.made in
    comes_one makes g.met.S.Stepper.no_step g.met.S.Stepper.more_steps _ _ _ _ _ c.args.from.item _ _ _
    c.equal_steps-step.ensures several (omega arith) c.in_default.ensures.ok

pub returns-clause-ok : goal.returns-clause-ok
returns-clause-ok g c =
    comes_past g.S.Stepper.makes g.met.S.Stepper.no_step g.met.S.Stepper.more_steps _ _ _ _ c.args.from.item _ _ _ c.equal_steps-step.ensures
    (omega arith) c.loop-steps.invariant
