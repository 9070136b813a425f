use Rattle.std.proofs.Common.{take}
use Rattle.routine_judge.proofs.LeftBoxes.{AreLeftSoFar}
use Rattle.store_trace.specs.Cut.{stored_lines}
use Rattle.store_trace.specs.History.{at_moment}
use Rattle.routine_judge.proofs.cuts.left.left_at.Given as goal

abbrev pub invariant-loop-entry : goal.invariant-loop-entry
invariant-loop-entry l =
    let p = at_moment l.fn.trace.events l.fn.moment in AreLeftSoFar p l.fn.images l.left (take l.entry-index (stored_lines p))
