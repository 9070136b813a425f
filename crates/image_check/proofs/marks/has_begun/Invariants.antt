use Rattle.std.proofs.Common.{take}
use Rattle.std.specs.List.{Contains}
use Rattle.store_trace.specs.Marks.{begun}
use Rattle.image_check.proofs.marks.has_begun.Given as goal

abbrev pub invariant-loop-event : goal.invariant-loop-event
invariant-loop-event l = ¬ Contains (begun (take l.event-index l.events)) l.op
