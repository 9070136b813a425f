use Rattle.std.proofs.Common.{◌≡◌, take}
use Rattle.crash_test.specs.Images.{lines_of}
use Rattle.crash_test.proofs.images.lines_of.Given as goal

abbrev pub invariant-loop-entry : goal.invariant-loop-entry
invariant-loop-entry l = l.lines.items ≡ lines_of l.image (take l.entry-index l.entry-items)
