use Rattle.std.proofs.Common.{◌≡◌, None, map, take}
use Rattle.elf_file.specs.Lines.{row_at}
use Rattle.elf_file.specs.SourceRows.{known_row}
use Rattle.elf_file.proofs.lines.cells.row_number_at.Given as goal

abbrev pub invariant-loop-number : goal.invariant-loop-number
invariant-loop-number l = row_at (take l.number (map known_row l.rows)) l.pc ≡ None
