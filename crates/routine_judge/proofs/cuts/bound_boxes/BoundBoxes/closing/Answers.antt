use Rattle.std.proofs.Common.{◌<◌, get_or, ap, arith}
use Rattle.recovery.specs.Closed.{BoundBox}
use Rattle.routine_judge.proofs.cuts.bound_boxes.BoundBoxes.closing.Goals as goal

pub overflow_add-result : goal.overflow_add-result
overflow_add-result c =
    let box = c.at.result.now in
    let few : (get_or c.args.self.now.boxes c.args.place box).cuts < 65536 = c.requires.few box in
    let same = ap (λ (b : BoundBox). b.cuts) (c.at.ensures.value box) in
    omega (arith, few, same, c.bound-bound.ensures.cuts)
