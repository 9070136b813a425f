use Rattle.std.proofs.Common.{◌≤◌}
use Rattle.routine_judge.proofs.cuts.narrowing.numbered_contents.Given as goal

abbrev pub invariant-loop-event : goal.invariant-loop-event
invariant-loop-event l = l.so_far.stores ≤ l.event-index
