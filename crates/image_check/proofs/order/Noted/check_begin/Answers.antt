use Rattle.std.proofs.Common.{◌∙◌, sym, true≢false}
use Rattle.image_check.proofs.Faulting.{begin_faultless, begin_sharing, begin_twice, begin_unknown}
use Rattle.image_check.proofs.Planning.{found_planned, lost_unplanned}
use Rattle.image_check.proofs.Settling.{noted_begun}
use Rattle.image_check.proofs.order.Noted.check_begin.Goals as goal

pub returns-in_default-clause-err : goal.returns-in_default-clause-err
returns-in_default-clause-err c = λ hart.
    begin_unknown c.args.plan.now.operations c.args.before.now hart c.args.op
    (lost_unplanned c.args.plan.now.operations c.args.op (sym c.find_operation.ensures ∙ c.in_default.is))

pub returns-then-begins_again-clause-err : goal.returns-then-begins_again-clause-err
returns-then-begins_again-clause-err c = λ hart.
    begin_twice c.args.plan.now.operations c.args.before.now hart c.args.op
    (found_planned c.args.plan.now.operations c.args.op c.in-Some.operation (sym c.find_operation.ensures ∙ c.in-Some.is))
    (c.begins_again.ensures.0 c.if-begins_again.true)

pub returns-then-shares_pending-clause-err : goal.returns-then-shares_pending-clause-err
returns-then-shares_pending-clause-err c = λ hart.
    begin_sharing c.args.plan.now.operations c.args.before.now hart c.args.op
    (found_planned c.args.plan.now.operations c.args.op c.in-Some.operation (sym c.find_operation.ensures ∙ c.in-Some.is))
    (λ begun. true≢false (sym (c.begins_again.ensures.1 begun) ∙ c.if-begins_again.false)) (c.shares_pending.ensures.0 c.if-shares_pending.true)

pub returns-clause-ok : goal.returns-clause-ok
returns-clause-ok c = λ hart.
    begin_faultless c.args.plan.now.operations c.args.before.now hart c.args.op
    (found_planned c.args.plan.now.operations c.args.op c.in-Some.operation (sym c.find_operation.ensures ∙ c.in-Some.is))
    (λ begun. true≢false (sym (c.begins_again.ensures.1 begun) ∙ c.if-begins_again.false))
    (λ shares. true≢false (sym (c.shares_pending.ensures.1 shares) ∙ c.if-shares_pending.false))

pub returns-clause-noted : goal.returns-clause-noted
returns-clause-noted c = λ hart.
    noted_begun c.args.before.now hart c.args.op c.args.self.now.greatest _ c.requires.noted.greatest c.max-self.ensures c.first_pending-self.ensures
