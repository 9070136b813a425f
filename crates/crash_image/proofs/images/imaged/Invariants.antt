use Rattle.std.proofs.Common.{take}
use Rattle.store_trace.specs.History.{history}
use Rattle.store_trace.specs.Cut.{number_in}
use Rattle.crash_image.specs.ImageScan.{IsImaged}
use Rattle.line_memory.specs.Lines.{IsMedium}
use Rattle.crash_image.proofs.images.imaged.Given as goal

abbrev pub invariant-loop-event : goal.invariant-loop-event
invariant-loop-event l =
    IsImaged l.medium (number_in l.entries) (history (take l.event-index l.events)) l.left.items l.made × IsMedium l.made
