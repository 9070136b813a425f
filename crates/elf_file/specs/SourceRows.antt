-- The rows of a line table, which say from which line an address on instructions come.
use Rattle.std.specs.Prelude.{ℕ, Bool, List, Option, option_map}
use Rattle.elf_file.specs.Texts.{known_path}
use Rattle.elf_file.specs.declared.lines.units.SourceRow.{SourceRow}

-- a row: its address, the path of its file, where its number is that of one, its line, and whether it ends a sequence
pub record KnownRow : Type 0 where
  pub address : ℕ
  pub path : Option (List ℕ)
  pub line : ℕ
  pub ends : Bool

-- the same of the program's own value
abbrev pub known_row : SourceRow → KnownRow
known_row row = record { address = row.address; path = option_map known_path row.path; line = row.line; ends = row.ends }
