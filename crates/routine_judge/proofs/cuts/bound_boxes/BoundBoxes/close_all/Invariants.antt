use Rattle.std.proofs.Common.{◌≡◌}
use Rattle.std.specs.List.{Contains}
use Rattle.routine_judge.proofs.ClosedBoxes.{AreClosing}
use Rattle.routine_judge.specs.Closing.{IsSame}
use Rattle.routine_judge.proofs.cuts.bound_boxes.BoundBoxes.close_all.Given as goal

abbrev pub invariant-loop-place : goal.invariant-loop-place
invariant-loop-place l =
    AreClosing l.fn.routine.program l.rule.steps (Contains l.rule.right.now.answers.items) l.rule.most l.fn.self.boxes l.self.boxes l.place
    × (l.self.lines ≡ l.fn.self.lines) × IsSame l.fn.routine l.routine
