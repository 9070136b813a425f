use Rattle.std.proofs.Common.{◌≡◌, map, take}
use Rattle.routine_judge.specs.Spans.{until_of}
use Rattle.routine_judge.proofs.history.moments.Windows.of.Given as goal

abbrev pub invariant-loop-event : goal.invariant-loop-event
invariant-loop-event l = l.until.items ≡ map (until_of l.events) (take l.event-index l.events)
