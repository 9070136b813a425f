-- The line table of an executable: the rows of the units that are read.
use Rattle.std.specs.List.{count_by, flat_map}
use Rattle.std.specs.Prelude.{ℕ, List, codes, length, map}
use Rattle.elf_file.specs.Forms.{TextsByPlace}
use Rattle.elf_file.specs.Sections.{section_of, text_at}
use Rattle.elf_file.specs.SourceRows.{KnownRow, known_row}
use Rattle.elf_file.specs.Units.{is_read, rows_given, units_of}
use Rattle.elf_file.specs.declared.lines.reading.UnitRows.{UnitRows}

-- the rows of all units that are read, in order, how many units there are, and how many of them are read
pub record KnownTable : Type 0 where
  pub rows : List KnownRow
  pub units : ℕ
  pub units_read : ℕ

-- by the text at each place of .debug_line_str, and the bytes of .debug_line
abbrev pub table_of : TextsByPlace → List ℕ → KnownTable
table_of texts table = record {
  rows = flat_map (rows_given texts) (units_of table);
  units = length (units_of table);
  units_read = count_by (is_read texts) (units_of table);
}

-- that of a file
abbrev pub line_table_of : List ℕ → KnownTable
line_table_of file = table_of (text_at (section_of file (codes ".debug_line_str"))) (section_of file (codes ".debug_line"))

-- the same of the program's own value
abbrev pub known_table : UnitRows → KnownTable
known_table found = record { rows = map known_row found.rows.items; units = found.units; units_read = found.units_read }
