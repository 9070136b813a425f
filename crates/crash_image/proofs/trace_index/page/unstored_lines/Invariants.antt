use Rattle.std.proofs.Common.{◌≡◌, replicate}
use Rattle.crash_image.specs.Lines.{unstored}
use Rattle.crash_image.proofs.trace_index.page.unstored_lines.Given as goal

abbrev pub invariant-loop-line : goal.invariant-loop-line
invariant-loop-line l = l.made.items ≡ replicate l._line unstored
