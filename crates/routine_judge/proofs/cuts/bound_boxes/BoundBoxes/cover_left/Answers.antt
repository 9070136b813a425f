use Rattle.std.proofs.Common.{◌≡◌, ◌∙◌, ℕ, ◌+◌, ◌<◌, ◌≤◌, List, Some, length, ap, refl, subst, sym, true≢false}
use Rattle.recovery.specs.Boxes.{left_of}
use Rattle.routine_judge.proofs.Covering.{AreWidestCovered, after_last, moments_covered, no_fence_at, on_both, widest_fence, widest_none, widest_skip}
use Rattle.routine_judge.proofs.Gathering.{on_ok}
use Rattle.routine_judge.specs.BoundBoxViews.{BoxesView}
use Rattle.routine_judge.specs.Closing.{AreCovered, GrowsWith}
use Rattle.store_trace.specs.History.{at_moment}
use Rattle.store_trace.specs.declared.event.Event.{Event}
use Rattle.store_trace.specs.declared.event.Event.TheVariants.{Fence}
use Rattle.routine_judge.proofs.cuts.bound_boxes.BoundBoxes.cover_left.Goals as goal
use Rattle.routine_judge.proofs.cuts.bound_boxes.BoundBoxes.cover_left.Goals.{then-is_fence+in_ok-cover_moment, else-is_fence}

pub loop-moment-init : goal.loop-moment-init
loop-moment-init c =
    let run = c.args.run.now in
    let bound = c.args.bound.now in
    (widest_none c.args.self.now.boxes bound.cuts c.args.part.now run.trace.events run.found bound.shown, refl)

pub loop-moment-preserved : goal.loop-moment-preserved
loop-moment-preserved c =
    let old = c.args.self.now.boxes in
    let middle = c.loop-moment.self.boxes in
    let cuts = c.args.bound.now.cuts in
    let part = c.args.part.now in
    let events = c.args.run.now.trace.events in
    let found = c.args.run.now.found in
    let shown = c.args.bound.now.shown in
    let m = c.loop-moment.moment in
    let before = c.loop-moment.invariant in
    let early : m < length events = subst (λ (n : ℕ). m < n) (ap (λ (es : List Event). length es) c.events-events.ensures.value) c.loop-moment-test.true in
    elim c.if-is_fence.branch [
      | then-is_fence+in_ok-cover_moment w ↦
          subst (λ (s : BoxesView). AreWidestCovered old s.boxes cuts part events found shown (m + 1) × (s.lines ≡ c.args.self.now.lines)) (sym w.self-is) (
            widest_fence old middle w.cover_moment.new.self.boxes cuts part events found shown m early w.in_ok-cover_moment.ensures.grows
                w.in_ok-cover_moment.ensures.covered before.0,
            w.in_ok-cover_moment.ensures.lines ∙ before.1,
          )
      | else-is_fence w ↦
          let no_fence = no_fence_at events c.events-events.result.now m _ c.events-events.ensures.value c.loop-moment-test.true
          (c.is_fence.ensures (λ t. true≢false (sym t ∙ w.if-is_fence.false))) in
          subst (λ (s : BoxesView). AreWidestCovered old s.boxes cuts part events found shown (m + 1) × (s.lines ≡ c.args.self.now.lines)) (sym w.self-is) (
            widest_skip old middle cuts part events found shown m no_fence before.0,
            before.1,
          )
    ]

pub returns-clause-covered : goal.returns-clause-covered
returns-clause-covered c =
    let old = c.args.self.now.boxes in
    let new = c.cover_moment-2.new.self.boxes in
    let cuts = c.args.bound.now.cuts in
    let part = c.args.part.now in
    let events = c.args.run.now.trace.events in
    let shown = c.args.bound.now.shown in
    let answer = c.in-Ok.answer in
    on_both c.cover_moment-2.result
    (λ last grows.
    moments_covered old c.loop-moment.self.boxes new cuts part events c.args.run.now.found answer shown (Fence 0) c.loop-moment.moment c.in-Ok.is c.requires.found
    (subst (λ (n : ℕ). n ≤ c.loop-moment.moment) (ap (λ (es : List Event). length es) c.events-events.ensures.value) c.loop-moment-test.false)
    c.loop-moment.invariant.0 grows.grows
    (subst (λ (n : ℕ). AreCovered new cuts (left_of (at_moment events n) part) (Some answer)) (ap (λ (es : List Event). length es) c.events-events.ensures.value)
    (subst (λ (bytes : List ℕ). AreCovered new cuts (left_of (at_moment events (length c.events-events.result.now)) part) (Some bytes)) c.in_ok-copied.ensures last)))
    c.cover_moment-2.ensures.covered c.cover_moment-2.ensures.grows

pub returns-clause-grows : goal.returns-clause-grows
returns-clause-grows c =
    let old = c.args.self.now.boxes in
    let middle = c.loop-moment.self.boxes in
    let new = c.cover_moment-2.new.self.boxes in
    let cuts = c.args.bound.now.cuts in
    let part = c.args.part.now in
    let events = c.args.run.now.trace.events in
    let shown = c.args.bound.now.shown in
    let answer = c.in-Ok.answer in
    on_ok c.cover_moment-2.result
    (λ grows.
    after_last old middle new cuts part events c.args.run.now.found answer shown c.loop-moment.moment c.in-Ok.is c.loop-moment.invariant.0
    (subst (λ (n : ℕ). GrowsWith middle new cuts (left_of (at_moment events n) part) (Some answer)) (ap (λ (es : List Event). length es) c.events-events.ensures.value)
    (subst (λ (bytes : List ℕ). GrowsWith middle new cuts (left_of (at_moment events (length c.events-events.result.now)) part) (Some bytes)) c.in_ok-copied.ensures grows)))
    c.cover_moment-2.ensures.grows
