use Rattle.std.proofs.Common.{List, sym, subst}
use Rattle.std.proofs.lemmas.List.{take_more}
use Rattle.store_trace.specs.declared.event.Event.{Event}
use Rattle.image_check.specs.OrderFaults.{AreNoted}
use Rattle.image_check.proofs.Faulting.{sound_more}
use Rattle.image_check.proofs.order.check_trace.Goals as goal

pub loop-at-preserved : goal.loop-at-preserved
loop-at-preserved c = (
  sound_more c.args.plan.now.operations c.events-events.result.now c.loop-at.at _ c.loop-at-test.true c.loop-at.invariant.0 c.in_ok-check_event.ensures.ok,
  subst (λ (es : List Event). AreNoted es c.check_event.new.self) (sym (take_more c.events-events.result.now c.loop-at.at _ c.loop-at-test.true)) c.in_ok-check_event.ensures.noted,
)
