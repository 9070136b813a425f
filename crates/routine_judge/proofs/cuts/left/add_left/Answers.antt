use Rattle.std.proofs.Common.{◌∙◌, List, refl, sym, subst, arith}
use Rattle.std.proofs.lemmas.List.{take_all}
use Rattle.crash_image.proofs.Stored.{history_more}
use Rattle.routine_judge.proofs.Afters.{read_all, read_none}
use Rattle.routine_judge.specs.LeftContents.{IsReadTo}
use Rattle.store_trace.specs.History.{history}
use Rattle.store_trace.specs.declared.crash_model.step.PersistenceStep.{PersistenceStep}
use Rattle.store_trace.specs.declared.event.Event.{Event}
use Rattle.routine_judge.proofs.cuts.left.add_left.Goals as goal

pub loop-event-init : goal.loop-event-init
loop-event-init c = (read_none c.args.start.now c.args.left.now c.add_to.new.left _ refl refl c.in_ok-add_to.ensures, refl, refl, omega arith)

pub loop-event-preserved : goal.loop-event-preserved
loop-event-preserved c =
    let before = c.loop-event.invariant in (
      subst (λ (p : List PersistenceStep). IsReadTo c.args.start.now p c.args.left.now c.read_on.new.self c.read_on.new.left)
          (sym (history_more c.args.events.now c.loop-event.event-index _ c.loop-event-test.true))
          (c.in_ok-read_on.ensures.ok c.args.start.now _ c.args.left.now before.0),
      c.in_ok-read_on.ensures.line ∙ before.1,
      c.in_ok-read_on.ensures.low ∙ before.2,
      omega (arith, c.in_ok-read_on.ensures.more, before.3),
    )

pub returns : goal.returns
returns c =
    let before = c.loop-event.invariant in
    read_all c.args.start.now (history c.args.events.now) c.args.left.now c.loop-event.left c.loop-event.so_far c.args.line c.args.low before.1 before.2
    (subst (λ (events : List Event). IsReadTo c.args.start.now (history events) c.args.left.now c.loop-event.so_far c.loop-event.left)
    (take_all c.loop-event.event-index c.args.events.now c.loop-event-test.false) before.0)
