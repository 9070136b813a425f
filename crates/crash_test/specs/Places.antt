-- Where the bytes of a source stand in the flat memory that a run of its program begins with.
use Rattle.std.specs.Prelude.{◌≡◌, ◌≤◌, ◌<◌, ◌+◌, ◌++◌, ℕ, List, ◌∷◌, Some, length, slice_get}
use Rattle.line_memory.specs.Memory.{Memory}
use Rattle.asm_lex.specs.declared.asm_names.kinds.Section.{Section}
use Rattle.assemble.specs.Assembly.{lines_back, values_of}
use Rattle.assemble.specs.Places.{base_of, limit_of, place_after, section_after, size_of}
use Rattle.assemble.specs.SourceLines.{IsSourceLine}

-- the bytes stand in a memory from an address on
abbrev pub StandFrom : Memory → ℕ → List ℕ → Type 0
StandFrom memory address bytes = (at : ℕ) → at < length bytes → memory (address + at) ≡ slice_get bytes at

-- a line after these has its bytes, and they stand in the memory from its place on
pub record StandsAtItsPlace (source : List ℕ) (memory : Memory) (earlier : List (List ℕ)) (line : List ℕ) : Type 0 where
  pub bytes : List ℕ
  pub is_line : IsSourceLine (section_after earlier) (place_after earlier) (values_of source) line bytes
  pub stand : StandFrom memory (place_after earlier) bytes

-- each line of the source stands at its place, and zeros stand behind the last line of a section
pub record HoldsSource (source : List ℕ) (memory : Memory) : Type 0 where
  pub lines : (later earlier : List (List ℕ)) (line : List ℕ) → lines_back source ≡ later ++ line ∷ earlier
      → StandsAtItsPlace source memory earlier line
  pub zeros : (section : Section) (at : ℕ) → size_of section (lines_back source) ≤ at → at < limit_of section
      → memory (base_of section + at) ≡ Some 0
