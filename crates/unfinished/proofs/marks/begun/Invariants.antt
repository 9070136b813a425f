use Rattle.std.proofs.Common.{◌≡◌, take}
use Rattle.store_trace.specs.Marks.{begun}
use Rattle.unfinished.proofs.marks.begun.Given as goal

abbrev pub invariant-loop-event : goal.invariant-loop-event
invariant-loop-event l = l.numbers.items ≡ begun (take l.event-index l.events)
