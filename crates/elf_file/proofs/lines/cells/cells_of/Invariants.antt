use Rattle.elf_file.specs.Skips.{AreSkips}
use Rattle.elf_file.proofs.Holding.{AreCellsUpTo}
use Rattle.elf_file.proofs.lines.cells.cells_of.Given as goal

abbrev pub invariant-loop-number : goal.invariant-loop-number
invariant-loop-number l = AreCellsUpTo l.rows l.number l.cells.items × AreSkips l.cells.items l.skips.items
