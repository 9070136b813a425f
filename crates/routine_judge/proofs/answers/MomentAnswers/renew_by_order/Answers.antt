use Rattle.std.proofs.Common.{take, subst}
use Rattle.routine_judge.specs.Order.{AreOrdered}
use Rattle.routine_judge.proofs.answers.MomentAnswers.renew_by_order.Goals as goal

pub returns-clause-right : goal.returns-clause-right
returns-clause-right c = λ view all.
    let events = c.args.events.now in
    let order = c.reach.new.self in
    c.in_ok-self.ensures view (take c.args.moment events) all
    (subst (λ n. AreOrdered (take n events) order.precedence) c.in_ok-reach.ensures.count c.in_ok-reach.ensures.order.ordered)
