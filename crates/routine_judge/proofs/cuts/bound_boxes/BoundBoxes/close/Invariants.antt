use Rattle.std.proofs.Common.{◌≡◌, get_or}
use Rattle.recovery.specs.Closed.{BoundBox}
use Rattle.routine_judge.proofs.ClosingBoxes.{IsClosing}
use Rattle.routine_judge.specs.Closing.{IsSame}
use Rattle.routine_judge.proofs.cuts.bound_boxes.BoundBoxes.close.Given as goal

abbrev pub invariant-loop : goal.invariant-loop
invariant-loop l =
    ((d : BoundBox) →
    IsClosing l.fn.routine.program l.rule.steps l.rule.right.now l.rule.most (get_or l.fn.self.boxes l.fn.place d) l.fn.self.lines l.fn.self.boxes l.self.boxes l.pending.items)
    × (l.self.lines ≡ l.fn.self.lines) × IsSame l.fn.routine l.routine
