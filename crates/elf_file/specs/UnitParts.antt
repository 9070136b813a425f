-- The parts of a unit.
use Rattle.std.specs.Prelude.{ℕ, List}
use Rattle.elf_file.specs.declared.lines.header.Parts.{Parts}

-- a unit behind its length: its version, the rest of its header, and its program
pub record UnitParts : Type 0 where
  pub version : ℕ
  pub header : List ℕ
  pub program : List ℕ

-- the same of the program's own value, which refers to the bytes
abbrev pub known_parts : Parts → UnitParts
known_parts parts = record { version = parts.version; header = parts.header.now; program = parts.program.now }
