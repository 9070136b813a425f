use Rattle.std.proofs.Common.{◌∙◌, sym, subst, true≢false}
use Rattle.store_trace.specs.declared.event.Event.{Event}
use Rattle.image_check.specs.OrderFaults.{OpensSharer}
use Rattle.image_check.proofs.Sharing.{ended_shares_not, opened_shares, sharer_opened}
use Rattle.image_check.proofs.order.opens_sharer.Goals as goal

pub returns-then-has_ended : goal.returns-then-has_ended
returns-then-has_ended c = (
  λ f. absurd (true≢false (sym f)),
  λ s. absurd (ended_shares_not c.args.plan.now.operations c.args.events.now c.in-Begin.hart c.in-Begin.other c.args.op
      (c.has_ended.ensures.0 c.if-has_ended.true)
      (subst (λ (event : Event). OpensSharer c.args.plan.now.operations c.args.events.now event c.args.op) c.in-Begin.is s)),
)

pub returns : goal.returns
returns c = (
  λ t. subst (λ (event : Event). OpensSharer c.args.plan.now.operations c.args.events.now event c.args.op) (sym c.in-Begin.is)
      (sharer_opened c.args.plan.now.operations c.args.events.now c.in-Begin.hart c.in-Begin.other c.args.op
      (λ ended. true≢false (sym (c.has_ended.ensures.1 ended) ∙ c.if-has_ended.false)) (c.shares_with.ensures.0 t)),
  λ s. c.shares_with.ensures.1
      (opened_shares c.args.plan.now.operations c.args.events.now c.in-Begin.hart c.in-Begin.other c.args.op
      (subst (λ (event : Event). OpensSharer c.args.plan.now.operations c.args.events.now event c.args.op) c.in-Begin.is s)),
)
