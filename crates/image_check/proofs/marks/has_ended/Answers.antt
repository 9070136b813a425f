use Rattle.std.proofs.Common.{◌≡◌, true≢false, List, take, sym, subst, ◌∙◌}
use Rattle.std.proofs.lemmas.List.{take_all}
use Rattle.std.specs.List.{Contains}
use Rattle.store_trace.specs.declared.event.Event.{Event}
use Rattle.store_trace.specs.Marks.{ended}
use Rattle.store_trace.proofs.Marking.{no_more_ended}
use Rattle.image_check.proofs.marks.has_ended.Goals as goal

pub loop-event-preserved : goal.loop-event-preserved
loop-event-preserved c =
    no_more_ended c.args.events.now c.loop-event.event-index _ c.args.op c.loop-event-test.true c.loop-event.invariant
    (λ e. true≢false (sym (c.ends.ensures.1 e) ∙ c.if-ends.false))

pub returns : goal.returns
returns c =
    let whole : take c.loop-event.event-index c.args.events.now ≡ c.args.events.now =
    take_all c.loop-event.event-index c.args.events.now c.loop-event-test.false in (
      λ f. absurd (true≢false (sym f)),
      λ m. absurd (c.loop-event.invariant (subst (λ (es : List Event). Contains (ended es) c.args.op) (sym whole) m)),
    )
