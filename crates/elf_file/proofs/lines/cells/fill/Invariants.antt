use Rattle.std.proofs.Common.{◌-◌}
use Rattle.elf_file.proofs.Skipping.{IsFillingUp}
use Rattle.elf_file.proofs.lines.cells.fill.Given as goal

abbrev pub invariant-loop-at : goal.invariant-loop-at
invariant-loop-at l = IsFillingUp l.fn.cells l.cells l.skips l.first l.end l.at l.number

abbrev pub decreases-loop-at : goal.decreases-loop-at
decreases-loop-at l = l.end - l.at
