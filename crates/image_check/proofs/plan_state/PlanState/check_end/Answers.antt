use Rattle.image_check.proofs.Faulting.{end_faultless, end_not_pending, end_unknown}
use Rattle.image_check.proofs.Following.{under_way_marks}
use Rattle.image_check.proofs.Planning.{told_planned, told_unplanned}
use Rattle.image_check.proofs.Rising.{hart_differs, hart_same}
use Rattle.image_check.proofs.plan_state.PlanState.check_end.Goals as goal

pub returns-then-is_none-clause-err : goal.returns-then-is_none-clause-err
returns-then-is_none-clause-err c = λ start events is.
    end_unknown c.args.plan.now.operations events c.args.hart c.args.op
    (told_unplanned c.args.plan.now.operations c.args.op c.find_operation.result c.find_operation.ensures c.if-is_none.ensures)

pub returns-then-ne-clause-err : goal.returns-then-ne-clause-err
returns-then-ne-clause-err c = λ start events is.
    let outcomes = c.args.self.now.outcomes in
    end_not_pending c.args.plan.now.operations events c.args.hart c.args.op
    (told_planned c.args.plan.now.operations c.args.op c.find_operation.result c.find_operation.ensures c.if-is_none.ensures)
    (λ both. hart_differs c.hart_of.result c.args.hart c.ne.result c.ne.ensures c.if-ne.true
    ((c.hart_of.ensures is.in_order c.args.hart).1
    ((under_way_marks c.args.plan.now.operations start outcomes.settled events outcomes.under_way.items c.args.hart c.args.op is.outcomes_are).1 both)))

pub returns-clause-ok : goal.returns-clause-ok
returns-clause-ok c = λ start events fault is.
    let outcomes = c.args.self.now.outcomes in
    let both =
    (under_way_marks c.args.plan.now.operations start outcomes.settled events outcomes.under_way.items c.args.hart c.args.op is.outcomes_are).0
    ((c.hart_of.ensures is.in_order c.args.hart).0 (hart_same c.hart_of.result c.args.hart c.ne.result c.ne.ensures c.if-ne.false)) in
    end_faultless c.args.plan.now.operations events c.args.hart c.args.op
    (told_planned c.args.plan.now.operations c.args.op c.find_operation.result c.find_operation.ensures c.if-is_none.ensures) both.0 both.1 fault
