use Rattle.image_check.proofs.Following.{state_next}
use Rattle.image_check.proofs.plan_state.PlanState.after.Goals as goal

pub returns-clause-ok : goal.returns-clause-ok
returns-clause-ok c = λ start events is.
    state_next c.args.plan.now.operations start events c.args.event c.args.self.now c.in_ok-next.next c.note.new.self
    c.in_ok-next.ensures.settled c.in_ok-next.ensures.under_way c.in_ok-next.ensures.ended
    (λ fault. c.in_default.ensures.ok start events fault is) (c.in_ok-note.ensures.outcomes start events) c.in_ok-note.ensures.in_order
    c.in_ok-note.ensures.ended c.in_ok-note.ensures.ended_in_order is
