use Rattle.std.proofs.Common.{◌∙◌, ◌<◌, get_or, length, arith}
use Rattle.std.specs.List.{Contains}
use Rattle.routine_judge.proofs.ClosedBoxes.{all_end, all_next, bad_box, by_as, by_next, verdict_as}
use Rattle.routine_judge.proofs.ClosingBoxes.{some_box}
use Rattle.routine_judge.specs.declared.cuts.closing.BoxVerdict.TheVariants as verdicts
use Rattle.routine_judge.proofs.cuts.bound_boxes.BoundBoxes.close_all.Goals as goal

pub returns-then-place-len-clause-ok : goal.returns-then-place-len-clause-ok
returns-then-place-len-clause-ok c =
    let rule = c.args.rule in
    all_end c.args.routine.now.program rule.steps (Contains rule.right.now.answers.items) rule.most c.args.self.now.boxes c.loop-place.self.boxes c.loop-place.place
    (omega (arith, c.if-place-len.true, c.len.ensures)) c.loop-place.invariant.0

pub returns-in-Bad-clause-ok : goal.returns-in-Bad-clause-ok
returns-in-Bad-clause-ok c =
    let rule = c.args.rule in
    let middle = c.loop-place.self.boxes in
    let new = c.close.new.self.boxes in
    let inside : c.loop-place.place < length middle = omega (arith, c.if-place-len.false, c.len.ensures) in
    bad_box c.args.routine.now.program rule.steps rule.right.now rule.most middle new c.loop-place.place c.in-Bad.cause c.in_ok-close.ensures.grows.grows inside
    (verdict_as c.loop-place.routine.program c.args.routine.now.program rule.steps rule.right.now rule.most new (get_or middle c.loop-place.place some_box)
    c.in_ok-close.field-0 (verdicts.Bad c.in-Bad.cause) c.loop-place.invariant.2.0 c.in-Bad.is (c.in_ok-close.ensures.ok some_box))

pub loop-place-preserved : goal.loop-place-preserved
loop-place-preserved c =
    let rule = c.args.rule in
    let before = c.loop-place.invariant in
    let middle = c.loop-place.self.boxes in
    let new = c.close.new.self.boxes in
    let inside : c.loop-place.place < length middle = omega (arith, c.if-place-len.false, c.len.ensures) in (
      all_next c.args.routine.now.program rule.steps (Contains rule.right.now.answers.items) rule.most c.args.self.now.boxes middle new c.loop-place.place inside
          (by_as c.loop-place.routine.program c.args.routine.now.program rule.steps middle new before.2.0 c.in_ok-close.ensures.grows)
          (λ d. verdict_as c.loop-place.routine.program c.args.routine.now.program rule.steps rule.right.now rule.most new (get_or middle c.loop-place.place d)
          c.in_ok-close.field-0 verdicts.Closed before.2.0 c.in-Closed.is (c.in_ok-close.ensures.ok d)) before.0,
      c.in_ok-close.ensures.size ∙ before.1,
      (c.in_ok-close.ensures.routine.0 ∙ before.2.0, c.in_ok-close.ensures.routine.1 ∙ before.2.1),
    )

pub returns-then-place-len-clause-grows : goal.returns-then-place-len-clause-grows
returns-then-place-len-clause-grows c = c.loop-place.invariant.0.grows

pub returns-in-Bad-clause-grows : goal.returns-in-Bad-clause-grows
returns-in-Bad-clause-grows c =
    let rule = c.args.rule in
    by_next c.args.routine.now.program c.loop-place.routine.program rule.steps (Contains rule.right.now.answers.items) rule.most c.args.self.now.boxes c.loop-place.self.boxes
    c.close.new.self.boxes c.loop-place.place c.loop-place.invariant.2.0 c.loop-place.invariant.0 c.in_ok-close.ensures.grows

pub returns-in-TooMany-clause-grows : goal.returns-in-TooMany-clause-grows
returns-in-TooMany-clause-grows c =
    let rule = c.args.rule in
    by_next c.args.routine.now.program c.loop-place.routine.program rule.steps (Contains rule.right.now.answers.items) rule.most c.args.self.now.boxes c.loop-place.self.boxes
    c.close.new.self.boxes c.loop-place.place c.loop-place.invariant.2.0 c.loop-place.invariant.0 c.in_ok-close.ensures.grows

pub returns-clause-grows : goal.returns-clause-grows
returns-clause-grows c = c.loop-place.invariant.0.grows
