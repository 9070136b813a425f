use Rattle.std.proofs.Common.{take}
use Rattle.crash_image.specs.ImageScan.{IsLineMade}
use Rattle.store_trace.specs.History.{history}
use Rattle.crash_image.proofs.line.bytes_after.Given as goal

abbrev pub invariant-loop-event : goal.invariant-loop-event
invariant-loop-event l = IsLineMade l.start l.line l.number (history (take l.event-index l.events)) l.left l.bytes
