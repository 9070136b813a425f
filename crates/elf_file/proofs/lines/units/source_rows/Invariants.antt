use Rattle.std.proofs.Common.{◌≡◌, map, take}
use Rattle.elf_file.specs.SourceRows.{known_row}
use Rattle.elf_file.specs.Texts.{known_path}
use Rattle.elf_file.specs.Units.{source_row}
use Rattle.elf_file.proofs.lines.units.source_rows.Given as goal

abbrev pub invariant-loop-row : goal.invariant-loop-row
invariant-loop-row l = map known_row l.all.items ≡ map (source_row l.version (map known_path l.files)) (take l.row-index l.rows)
