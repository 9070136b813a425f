use Rattle.std.proofs.Common.{◌∙◌, sym, true≢false}
use Rattle.store_trace.proofs.Marking.{event_here}
use Rattle.store_trace.specs.declared.event.Event.TheVariants.{Begin}
use Rattle.image_check.proofs.Faulting.{end_ended, end_faultless, end_unbegun, end_unknown}
use Rattle.image_check.proofs.Planning.{told_planned, told_unplanned}
use Rattle.image_check.proofs.Settling.{ended_at_all, ended_behind}
use Rattle.image_check.proofs.order.check_end.Goals as goal

pub returns-then-is_none-clause-err : goal.returns-then-is_none-clause-err
returns-then-is_none-clause-err c =
    end_unknown c.args.plan.now.operations c.args.before.now c.args.hart c.args.op
    (told_unplanned c.args.plan.now.operations c.args.op c.find_operation.result c.find_operation.ensures c.if-is_none.ensures)

pub returns-in_default-clause-err : goal.returns-in_default-clause-err
returns-in_default-clause-err c =
    end_unbegun c.args.plan.now.operations c.args.before.now c.args.hart c.args.op
    (told_planned c.args.plan.now.operations c.args.op c.find_operation.result c.find_operation.ensures c.if-is_none.ensures)
    (rw c.in_default.is at c.last_begin.ensures.none)

pub returns-then-has_ended-clause-err : goal.returns-then-has_ended-clause-err
returns-then-has_ended-clause-err c =
    end_ended c.args.plan.now.operations c.args.before.now c.args.hart c.args.op
    (told_planned c.args.plan.now.operations c.args.op c.find_operation.result c.find_operation.ensures c.if-is_none.ensures)
    (ended_at_all c.args.before.now c.in-Some.place c.args.op (c.has_ended.ensures.0 c.if-has_ended.true))

pub returns-clause-ok : goal.returns-clause-ok
returns-clause-ok c =
    let there = rw c.in-Some.is at c.last_begin.ensures.some in
    let begins = rw c.in-Some.is at c.last_begin.ensures.begins in
    let none = Begin c.args.hart c.args.op in
    end_faultless c.args.plan.now.operations c.args.before.now c.args.hart c.args.op
    (told_planned c.args.plan.now.operations c.args.op c.find_operation.result c.find_operation.ensures c.if-is_none.ensures)
    (event_here c.args.before.now c.in-Some.place none none there (begins none))
    (λ ended. true≢false (sym (c.has_ended.ensures.1
    (ended_behind c.args.plan.now.operations c.args.before.now c.in-Some.place c.args.hart c.args.op none there c.requires.sound (begins none) ended)) ∙ c.if-has_ended.false))
