use Rattle.std.proofs.Common.{◌≡◌, take}
use Rattle.store_trace.specs.Marks.{ended}
use Rattle.unfinished.proofs.marks.ended.Given as goal

abbrev pub invariant-loop-event : goal.invariant-loop-event
invariant-loop-event l = l.numbers.items ≡ ended (take l.event-index l.events)
