use Rattle.std.proofs.Common.{◌≡◌}
use Rattle.routine_judge.proofs.Covering.{AreWidestCovered}
use Rattle.routine_judge.proofs.cuts.bound_boxes.BoundBoxes.cover_left.Given as goal

abbrev pub invariant-loop-moment : goal.invariant-loop-moment
invariant-loop-moment l =
    AreWidestCovered l.fn.self.boxes l.self.boxes l.bound.cuts l.part l.run.trace.events l.run.found l.bound.shown l.moment × (l.self.lines ≡ l.fn.self.lines)
