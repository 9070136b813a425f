use Rattle.std.proofs.Common.{◌≡◌, ◌++◌, drop}
use Rattle.crash_image.specs.FloorScan.{bounds_from}
use Rattle.crash_image.proofs.bounds.stored_lines.Given as goal

abbrev pub invariant-loop-line : goal.invariant-loop-line
invariant-loop-line l = l.found.items ++ bounds_from l.line (drop l.line l.tallies) ≡ bounds_from 0 l.tallies
