use Rattle.std.proofs.Common.{◌≡◌, reverse, take}
use Rattle.store_trace.specs.Image.{line_after}
use Rattle.store_trace.proofs.crash_model.plain.line_image.Given as goal

abbrev pub invariant-loop-at : goal.invariant-loop-at
invariant-loop-at l = l.bytes ≡ line_after l.start l.line l.count (reverse (take l.at l.steps))
