use Rattle.std.proofs.Common.{List, sym, subst}
use Rattle.store_trace.specs.declared.crash_model.step.PersistenceStep.{PersistenceStep}
use Rattle.crash_image.specs.ImageScan.{IsLineMade}
use Rattle.crash_image.proofs.Lined.{all_made, enough_made, none_made}
use Rattle.crash_image.proofs.Stored.{history_more}
use Rattle.crash_image.proofs.line.bytes_after.Goals as goal

pub loop-event-init : goal.loop-event-init
loop-event-init c = none_made _ _ _

pub loop-event-preserved : goal.loop-event-preserved
loop-event-preserved c =
    subst (λ (p : List PersistenceStep). IsLineMade c.args.start.now c.args.line c.args.number p c.apply_next.new.left c.apply_next.new.bytes)
    (sym (history_more c.args.events.now c.loop-event.event-index _ c.loop-event-test.true))
    (c.apply_next.ensures _ _ _ c.loop-event.invariant)

pub returns-then-left-eq0 : goal.returns-then-left-eq0
returns-then-left-eq0 c = enough_made c.args.start.now c.args.line c.args.number c.args.events.now c.loop-event.event-index c.loop-event.left c.loop-event.bytes c.if-left-eq0.true c.loop-event.invariant

pub returns : goal.returns
returns c = all_made c.args.start.now c.args.line c.args.number c.args.events.now c.loop-event.event-index c.loop-event.left c.loop-event.bytes c.loop-event-test.false c.loop-event.invariant
