use Rattle.std.proofs.Common.{◌≡◌, ◌∙◌, ◌++◌, ℕ, List, ap, length, take, drop, sym, subst, arith}
use Rattle.std.proofs.lemmas.List.{take_all}
use Rattle.crash_image.proofs.Slices.{written}
use Rattle.store_trace.specs.Cut.{number_in}
use Rattle.store_trace.specs.declared.crash_model.step.PersistenceStep.{PersistenceStep}
use Rattle.crash_image.specs.ImageScan.{IsImaged}
use Rattle.crash_image.proofs.Imaged.{imaged_all, imaged_none}
use Rattle.crash_image.proofs.Stored.{history_more}
use Rattle.crash_image.proofs.images.imaged.Goals as goal

pub loop-event-preserved : goal.loop-event-preserved
loop-event-preserved c =
    let same : take c.loop-event.left.len (c.apply_if_due.new.left ++ drop (length c.apply_if_due.new.left) c.loop-event.left.items) ≡ c.apply_if_due.new.left =
    written c.loop-event.left.items c.apply_if_due.new.left c.loop-event.left.len c.loop-event.left.ok.0
    (c.apply_if_due.auto.left ∙ ap (λ (ns : List ℕ). length ns) c.deref_mut.ensures.value) in
    rw same (
      subst (λ (p : List PersistenceStep). IsImaged c.args.medium.now (number_in c.args.entries.now) p c.apply_if_due.new.left c.apply_if_due.new.medium)
          (sym (history_more c.args.events.now c.loop-event.event-index _ c.loop-event-test.true))
          (c.apply_if_due.ensures.image _ _ _ (rw c.deref_mut.ensures.value c.loop-event.invariant.0)),
      c.apply_if_due.ensures.whole,
    )

pub returns-clause-ok : goal.returns-clause-ok
returns-clause-ok c =
    let all : take c.loop-event.event-index c.args.events.now ≡ c.args.events.now = take_all c.loop-event.event-index c.args.events.now c.loop-event-test.false in
    rw all at (imaged_all _ _ _ _ _ c.loop-event.invariant.0)

pub loop-event-init : goal.loop-event-init
loop-event-init c = (
  rw c.in_ok-made.ensures.same
      (imaged_none c.args.medium.now (number_in c.args.entries.now) c.in_ok-left.left.items (c.in_ok-left.ensures.len ∙ c.lines.ensures.count)
      (λ l d h. c.in_ok-left.ensures.each l d (omega (arith, h, c.lines.ensures.count)))),
  c.in_ok-made.ensures.whole,
)

pub apply_if_due-requires-clause-named : goal.apply_if_due-requires-clause-named
apply_if_due-requires-clause-named c = rw c.loop-event.invariant.0.size (c.requires.named c.loop-event.event-index _ c.loop-event-test.true)

pub apply_if_due-requires-clause-counts : goal.apply_if_due-requires-clause-counts
apply_if_due-requires-clause-counts c =
    ap (λ (ns : List ℕ). length ns) c.deref_mut.ensures.value ∙ c.loop-event.invariant.0.counts ∙ sym c.loop-event.invariant.0.size
