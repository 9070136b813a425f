use Rattle.std.proofs.Common.{◌≡◌, ◌≤◌, take}
use Rattle.routine_judge.specs.LeftContents.{IsReadTo}
use Rattle.store_trace.specs.History.{history}
use Rattle.routine_judge.proofs.cuts.left.add_left.Given as goal

abbrev pub invariant-loop-event : goal.invariant-loop-event
invariant-loop-event l =
    IsReadTo l.start (history (take l.event-index l.events)) l.fn.left l.so_far l.left
    × (l.so_far.line ≡ l.line) × (l.so_far.low ≡ l.low) × (l.so_far.stores ≤ l.event-index)
