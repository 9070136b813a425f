use Rattle.std.proofs.Common.{length, map}
use Rattle.elf_file.specs.SourceRows.{known_row}
use Rattle.elf_file.specs.Texts.{text_from}
use Rattle.elf_file.proofs.Reading.{AreRead}
use Rattle.elf_file.proofs.lines.reading.units_in.Given as goal

abbrev pub invariant-loop-rest : goal.invariant-loop-rest
invariant-loop-rest l = AreRead (text_from l.strings) l.table l.rest (map known_row l.rows.items) l.units l.units_read

abbrev pub decreases-loop-rest : goal.decreases-loop-rest
decreases-loop-rest l = length l.rest
