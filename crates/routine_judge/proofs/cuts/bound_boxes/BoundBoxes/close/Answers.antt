use Rattle.std.proofs.Common.{◌≡◌, ◌∙◌, Some, None, ℕ, get_or, ap, refl, subst, sym, arith}
use Rattle.std.proofs.lemmas.Bool.{MatchBool-at_false, MatchBool-at_true}
use Rattle.std.proofs.lemmas.List.{nil_from_length}
use Rattle.std.specs.List.{Contains}
use Rattle.recovery.specs.Closed.{BoundBox}
use Rattle.routine_judge.proofs.ClosedBoxes.{far_closed}
use Rattle.routine_judge.proofs.ClosingBoxes.{by_none, closing_bad, closing_end, closing_grew, closing_next, closing_start, from_as, made_closed, sized_as, sized_pop, some_box}
use Rattle.routine_judge.specs.CutsInRecovery.{IsAllowed}
use Rattle.routine_judge.proofs.cuts.bound_boxes.BoundBoxes.close.Goals as goal

pub returns-then-is_past-clause-ok : goal.returns-then-is_past-clause-ok
returns-then-is_past-clause-ok c = λ d.
    let rule = c.args.rule in
    let past : ¬ IsAllowed rule.most c.bound.result.now.cuts =
    MatchBool-at_true (¬ IsAllowed rule.most c.bound.result.now.cuts) (IsAllowed rule.most c.bound.result.now.cuts) c.if-is_past.true c.is_past.ensures in
    let same : c.bound.result.now.cuts ≡ (get_or c.args.self.now.boxes c.args.place d).cuts = c.bound.ensures.cuts ∙ ap (λ (box : BoundBox). box.cuts) (c.at.ensures.value d) in
    far_closed c.args.routine.now.program rule.steps (Contains rule.right.now.answers.items) rule.most c.args.self.now.boxes (get_or c.args.self.now.boxes c.args.place d)
    (λ few. past (subst (λ (n : ℕ). IsAllowed rule.most n) (sym same) few))

pub returns-then-is_past-clause-grows : goal.returns-then-is_past-clause-grows
returns-then-is_past-clause-grows c = by_none c.args.routine.now.program c.args.rule.steps c.args.self.now.boxes

pub returns-then-cuts-gt-MAX_CUTS-clause-grows : goal.returns-then-cuts-gt-MAX_CUTS-clause-grows
returns-then-cuts-gt-MAX_CUTS-clause-grows c = by_none c.args.routine.now.program c.args.rule.steps c.args.self.now.boxes

pub closing-requires-clause-few : goal.closing-requires-clause-few
closing-requires-clause-few c = λ d.
    let same = ap (λ (box : BoundBox). box.cuts) (c.at.ensures.value d) in
    omega (arith, c.if-cuts-gt-MAX_CUTS.false, same, c.bound.ensures.cuts)

pub returns-in_default-clause-ok : goal.returns-in_default-clause-ok
returns-in_default-clause-ok c = λ d.
    let empty = c.in_default.ensures.cases in
    let rule = c.args.rule in
    closing_end c.args.routine.now.program rule.steps rule.right.now rule.most (get_or c.args.self.now.boxes c.args.place d) c.args.self.now.lines c.args.self.now.boxes
    c.loop.self.boxes c.loop.pending.items (nil_from_length c.loop.pending.items (omega (arith, empty.0, c.loop.pending.ok))) (c.loop.invariant.0 d)

pub returns-in_default-clause-grows : goal.returns-in_default-clause-grows
returns-in_default-clause-grows c = (c.loop.invariant.0 some_box).grows

pub returns-then-runs-eq0-clause-grows : goal.returns-then-runs-eq0-clause-grows
returns-then-runs-eq0-clause-grows c = (c.loop.invariant.0 some_box).grows

pub close_part-requires-clause-sizes : goal.close_part-requires-clause-sizes
close_part-requires-clause-sizes c =
    sized_pop c.loop.self.lines c.args.self.now.lines c.loop.pending.items c.pop.new.self.items c.in-Some.images c.loop.invariant.1 c.in-Some.ensures.items
    (c.loop.invariant.0 some_box).sizes

pub returns-in-Some-found-clause-ok : goal.returns-in-Some-found-clause-ok
returns-in-Some-found-clause-ok c = λ d.
    let closing = c.in_ok-closing.closing in
    let rule = c.args.rule in
    let box = get_or c.args.self.now.boxes c.args.place d in
    let by = c.in_ok-closing.ensures.rule in
    let same : c.bound.result.now.cuts ≡ box.cuts = c.bound.ensures.cuts ∙ ap (λ (b : BoundBox). b.cuts) (c.at.ensures.value d) in
    let allowed : IsAllowed rule.most c.bound.result.now.cuts =
    MatchBool-at_false (¬ IsAllowed rule.most c.bound.result.now.cuts) (IsAllowed rule.most c.bound.result.now.cuts) c.if-is_past.false c.is_past.ensures in
    let bad = made_closed c.loop.routine.program c.args.routine.now.program closing c.loop.self.lines rule.steps rule.right.now rule.most c.close_part.new.self.boxes
    c.in-Some.images c.pop.new.self.items c.close_part.new.pending.items c.in_ok-found.found (Some c.in-Some-found.cause) c.loop.invariant.2.0 by.1 by.0 by.2
    c.in-Some-found.is c.in_ok-found.ensures.ok in (
      subst (λ (n : ℕ). IsAllowed rule.most n) same allowed,
      closing_bad c.args.routine.now.program rule.steps rule.right.now rule.most box c.args.self.now.lines c.args.self.now.boxes c.loop.self.boxes c.loop.pending.items
          c.pop.new.self.items c.in-Some.images closing.bound.shown c.in-Some-found.cause c.in-Some.ensures.items (c.in_ok-closing.ensures.shown d) bad (c.loop.invariant.0 d),
    )

pub returns-in-Some-found-clause-grows : goal.returns-in-Some-found-clause-grows
returns-in-Some-found-clause-grows c =
    let closing = c.in_ok-closing.closing in
    let rule = c.args.rule in
    let box = get_or c.args.self.now.boxes c.args.place some_box in
    let grown = from_as c.loop.routine.program c.args.routine.now.program closing.rule.steps rule.steps c.loop.self.boxes c.close_part.new.self.boxes closing.bound.cuts c.in-Some.images
    closing.bound.shown c.loop.invariant.2.0 c.in_ok-closing.ensures.rule.1 c.in_ok-found.ensures.grows in
    closing_grew c.args.routine.now.program rule.steps rule.right.now rule.most box c.args.self.now.lines c.args.self.now.boxes c.loop.self.boxes c.close_part.new.self.boxes
    c.loop.pending.items c.pop.new.self.items c.in-Some.images closing.bound.cuts closing.bound.shown c.in-Some.ensures.items (c.in_ok-closing.ensures.cuts some_box)
    (c.in_ok-closing.ensures.shown some_box) grown (λ origin all. all c.args.place some_box c.requires.there) (c.loop.invariant.0 some_box)

pub loop-init : goal.loop-init
loop-init c = (
  λ d. closing_start c.args.routine.now.program c.args.rule.steps c.args.rule.right.now c.args.rule.most (get_or c.args.self.now.boxes c.args.place d) c.args.self.now.lines
      c.args.self.now.boxes c.in_ok-pending.pending.items (c.in_ok-pending.ensures.images d) c.in_ok-pending.ensures.lines,
  refl,
  (refl, refl),
)

pub loop-preserved : goal.loop-preserved
loop-preserved c =
    let before = c.loop.invariant in
    let closing = c.in_ok-closing.closing in
    let rule = c.args.rule in
    let by = c.in_ok-closing.ensures.rule in
    let made = c.in_ok-found.ensures.ok in
    let closed = made_closed c.loop.routine.program c.args.routine.now.program closing c.loop.self.lines rule.steps rule.right.now rule.most c.close_part.new.self.boxes
    c.in-Some.images c.pop.new.self.items c.close_part.new.pending.items c.in_ok-found.found None before.2.0 by.1 by.0 by.2 c.in_default-found.is made in
    let grown = from_as c.loop.routine.program c.args.routine.now.program closing.rule.steps rule.steps c.loop.self.boxes c.close_part.new.self.boxes closing.bound.cuts c.in-Some.images
    closing.bound.shown before.2.0 by.1 c.in_ok-found.ensures.grows in (
      λ d. closing_next c.args.routine.now.program rule.steps rule.right.now rule.most (get_or c.args.self.now.boxes c.args.place d) c.args.self.now.lines c.args.self.now.boxes
          c.loop.self.boxes c.close_part.new.self.boxes c.loop.pending.items c.pop.new.self.items c.close_part.new.pending.items c.in-Some.images closing.bound.cuts
          closing.bound.shown c.in-Some.ensures.items (c.in_ok-closing.ensures.cuts d) (c.in_ok-closing.ensures.shown d) closed made.moved
          (sized_as c.loop.self.lines c.args.self.now.lines c.close_part.new.pending.items before.1 made.sizes)
          grown (λ origin all. all c.args.place d c.requires.there) (before.0 d),
      c.in_ok-found.ensures.size ∙ before.1,
      (c.in_ok-found.ensures.routine.0 ∙ before.2.0, c.in_ok-found.ensures.routine.1 ∙ before.2.1),
    )

pub returns-clause-grows : goal.returns-clause-grows
returns-clause-grows c = (c.loop.invariant.0 some_box).grows
