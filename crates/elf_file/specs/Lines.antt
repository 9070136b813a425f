-- The line of a pc.
use Rattle.std.specs.Prelude.{◌≡◌, ℕ, ◌+◌, ◌<◌, ◌==◌, ◌&&◌, not, Bool, nat_le, nat_lt, List, [], ◌∷◌, length, Option, Some, None, option_and_then, option_map, slice_get, slice_index_or, if◌then◌else◌}
use Rattle.std.specs.Bool.{then_some}
use Rattle.std.specs.Option.{option_or}
use Rattle.elf_file.specs.SourceRows.{KnownRow}
use Rattle.elf_file.specs.Texts.{base_name}

-- a row holds from its address up to that of the next, unless it ends its sequence
abbrev pub holds : KnownRow → KnownRow → ℕ → Bool
holds row next pc = not row.ends && (nat_le row.address pc && nat_lt pc next.address)

-- the first row that holds at a pc
abbrev pub row_at : List KnownRow → ℕ → Option KnownRow
row_at [] pc = None
row_at (row ∷ []) pc = None
row_at (row ∷ next ∷ rows) pc = if holds row next pc then Some row else row_at (next ∷ rows) pc

-- a file's name is what stands behind the last slash of its path, of 1 to 255 bytes
abbrev pub file_name : List ℕ → Option (List ℕ)
file_name path = if nat_lt 0 (length (base_name path)) && nat_lt (length (base_name path)) 256 then Some (base_name path) else None

-- the line that a row says, which isn't 0
abbrev pub said_line : KnownRow → Option (List ℕ × ℕ)
said_line row = if row.line == 0 then None else option_map (λ name. (name, row.line)) (option_and_then file_name row.path)

-- the name of the file and the line of a pc
abbrev pub line_at : List KnownRow → ℕ → Option (List ℕ × ℕ)
line_at rows pc = option_and_then said_line (row_at rows pc)

-- a line of a file of this name
abbrev pub file_line : List ℕ → ℕ → Option (List ℕ × ℕ)
file_line name line = Some (name, line)

-- an instruction comes from it
abbrev pub HasLine : List KnownRow → List ℕ → ℕ → ℕ → Type 0
HasLine rows name line pc = line_at rows pc ≡ file_line name line

-- none at the first bytes of text does
abbrev pub HasNoPc : List KnownRow → List ℕ → ℕ → ℕ → Type 0
HasNoPc rows name line count = (at : ℕ) → at < count → ¬ HasLine rows name line (0x1_0000 + at)

-- the least pc of text that does
pub record IsFirstPc (rows : List KnownRow) (name : List ℕ) (line pc : ℕ) : Type 0 where
  pub at : ℕ
  pub within : at < 0x1_0000
  pub address : pc ≡ 0x1_0000 + at
  pub line_there : HasLine rows name line pc
  pub none_before : HasNoPc rows name line at

-- the number of the row that holds at a pc, where there is one
abbrev pub IsRowAt : List KnownRow → ℕ → Option ℕ → Type 0
IsRowAt rows pc None = row_at rows pc ≡ None
IsRowAt rows pc (Some number) = (number < length rows) × (row_at rows pc ≡ slice_get rows number)

-- each cell is of one byte of text, which begins at 0x10000
abbrev pub AreCells : List KnownRow → List (Option ℕ) → Type 0
AreCells rows cells = (at : ℕ) → at < length cells → IsRowAt rows (0x1_0000 + at) (slice_index_or cells at None)

-- a cell with this number, where it is of one of these bytes and had none
abbrev pub filled : ℕ → ℕ → ℕ → ℕ → Option ℕ → Option ℕ
filled first end number at cell = option_or cell (then_some (nat_le first at && nat_lt at end) number)

-- a cell with the number of a row, where the row holds at its byte and it had none
abbrev pub with_row : KnownRow → KnownRow → ℕ → ℕ → Option ℕ → Option ℕ
with_row row next number at cell = option_or cell (then_some (holds row next (0x1_0000 + at)) number)
