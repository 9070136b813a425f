use Rattle.std.proofs.Common.{◌≡◌, ◌+◌, List, refl, take, sym, subst, ◌∙◌, arith}
use Rattle.std.proofs.lemmas.List.{take_all}
use Rattle.store_trace.specs.declared.crash_model.step.PersistenceStep.{PersistenceStep}
use Rattle.crash_image.specs.LeastCut.{AreSought}
use Rattle.crash_image.proofs.Least.{found_numbers}
use Rattle.crash_image.proofs.Stored.{below_history, history_more}
use Rattle.crash_image.proofs.search.look_through.Goals as goal

pub loop-event-init : goal.loop-event-init
loop-event-init c = (c.in_ok-shown.ensures.whole, λ low first. rw c.in_ok-shown.ensures.same first)

pub apply_and_compare-requires-clause-named : goal.apply_and_compare-requires-clause-named
apply_and_compare-requires-clause-named c =
    rw (c.loop-event.invariant.1 c.requires.sought.0 c.requires.sought.1).lines (c.requires.named c.loop-event.event-index _ c.loop-event-test.true)

pub apply_and_compare-requires-clause-wanted : goal.apply_and_compare-requires-clause-wanted
apply_and_compare-requires-clause-wanted c = c.requires.lines ∙ sym (c.loop-event.invariant.1 c.requires.sought.0 c.requires.sought.1).lines

pub apply_and_compare-requires-clause-size : goal.apply_and_compare-requires-clause-size
apply_and_compare-requires-clause-size c =
    (c.loop-event.invariant.1 c.requires.sought.0 c.requires.sought.1).size ∙ sym (c.loop-event.invariant.1 c.requires.sought.0 c.requires.sought.1).lines

pub apply_and_compare-requires-clause-few : goal.apply_and_compare-requires-clause-few
apply_and_compare-requires-clause-few c = λ l d h.
    let s = c.loop-event.invariant.1 c.requires.sought.0 c.requires.sought.1 in
    omega (arith, (s.each l d (omega (arith, h, s.size))).few, c.requires.limit, c.loop-event-test.true)

pub loop-event-preserved : goal.loop-event-preserved
loop-event-preserved c = (
  c.apply_and_compare.ensures.whole,
  λ low first.
      subst (λ (p : List PersistenceStep). AreSought c.args.medium.now c.args.wanted.now low (c.loop-event.event-index + 1) p c.apply_and_compare.new.shown c.apply_and_compare.new.all)
      (sym (history_more c.args.events.now c.loop-event.event-index _ c.loop-event-test.true))
      (c.apply_and_compare.ensures.sought _ _ _ _ (c.loop-event.invariant.1 low first)),
)

pub returns-clause-ok : goal.returns-clause-ok
returns-clause-ok c = λ low first.
    let all : take c.loop-event.event-index c.args.events.now ≡ c.args.events.now = take_all c.loop-event.event-index c.args.events.now c.loop-event-test.false in
    found_numbers _ _ low _ _ c.loop-event.shown c.loop-event.all _ (below_history _ c.args.events.now c.requires.named)
    (rw all at (c.loop-event.invariant.1 low first)) refl
