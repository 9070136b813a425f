use Rattle.std.proofs.Common.{subst, arith}
use Rattle.recovery.specs.Closed.{BoundBox, Covers}
use Rattle.routine_judge.proofs.Covering.{have_covered}
use Rattle.routine_judge.proofs.cuts.bound_boxes.BoundBoxes.have.Goals as goal

pub returns-then-covers : goal.returns-then-covers
returns-then-covers c = λ found.
    let bound = c.args.bound.now in
    have_covered c.args.self.now.boxes c.loop-place.place c.at.result.now bound.cuts c.args.images.now bound.shown
    (omega (arith, c.loop-place-test.true, c.loop-place.auto.place-end, c.len-place-end.ensures))
    (λ image h. subst (λ (box : BoundBox). Covers box bound.cuts image bound.shown) (c.at.ensures.value c.at.result.now) (c.covers.ensures c.if-covers.true image h))
