use Rattle.std.proofs.Common.{◌∙◌, sym, true≢false}
use Rattle.image_check.proofs.Faulting.{begin_faultless, begin_sharing, begin_twice, begin_unknown}
use Rattle.image_check.proofs.Following.{sharing_state}
use Rattle.image_check.proofs.Planning.{found_planned, lost_unplanned}
use Rattle.image_check.proofs.plan_state.PlanState.check_begin.Goals as goal

pub returns-in_default-clause-err : goal.returns-in_default-clause-err
returns-in_default-clause-err c = λ start events hart is.
    begin_unknown c.args.plan.now.operations events hart c.args.op
    (lost_unplanned c.args.plan.now.operations c.args.op (sym c.find_operation.ensures ∙ c.in_default.is))

pub returns-then-has_begun-clause-err : goal.returns-then-has_begun-clause-err
returns-then-has_begun-clause-err c = λ start events hart is.
    begin_twice c.args.plan.now.operations events hart c.args.op
    (found_planned c.args.plan.now.operations c.args.op c.in-Some.operation (sym c.find_operation.ensures ∙ c.in-Some.is))
    ((c.has_begun.ensures c.args.plan.now.operations start events is).0 c.if-has_begun.true)

pub returns-then-shares_inode-clause-err : goal.returns-then-shares_inode-clause-err
returns-then-shares_inode-clause-err c = λ start events hart is.
    begin_sharing c.args.plan.now.operations events hart c.args.op
    (found_planned c.args.plan.now.operations c.args.op c.in-Some.operation (sym c.find_operation.ensures ∙ c.in-Some.is))
    (λ begun. true≢false (sym ((c.has_begun.ensures c.args.plan.now.operations start events is).1 begun) ∙ c.if-has_begun.false))
    ((sharing_state c.args.plan.now.operations start events c.args.self.now c.args.op is).0 (c.shares_inode.ensures.0 c.if-shares_inode.true))

pub returns-clause-ok : goal.returns-clause-ok
returns-clause-ok c = λ start events hart fault is.
    begin_faultless c.args.plan.now.operations events hart c.args.op
    (found_planned c.args.plan.now.operations c.args.op c.in-Some.operation (sym c.find_operation.ensures ∙ c.in-Some.is))
    (λ begun. true≢false (sym ((c.has_begun.ensures c.args.plan.now.operations start events is).1 begun) ∙ c.if-has_begun.false))
    (λ shares. true≢false
    (sym (c.shares_inode.ensures.1 ((sharing_state c.args.plan.now.operations start events c.args.self.now c.args.op is).1 shares)) ∙ c.if-shares_inode.false))
    fault
