-- The units of a line table, and their rows. Source: DWARF 5, sections 6.2.4 and 7.4; DWARF 4, section 6.2.4.
use Rattle.std.specs.Option.{option_map_or}
use Rattle.std.specs.Prelude.{ℕ, zero, suc, ℤ, pos, ◌-ℤ◌, ◌-◌, ◌==◌, ◌&&◌, Bool, true, not, nat_le, nat_lt, List, [], ◌∷◌, length, drop, take, map, Option, Some, None, is_some, option_and_then, option_map, unwrap_or, slice_get, slice_index, if◌then◌else◌}
use Rattle.std.specs.Str.{bytes_eq}
use Rattle.elf_file.specs.Files.{files_of, path_of}
use Rattle.elf_file.specs.Forms.{TextsByPlace}
use Rattle.elf_file.specs.Numbers.{fixed_at}
use Rattle.elf_file.specs.UnitParts.{UnitParts}
use Rattle.elf_file.specs.Opcodes.{rows_of}
use Rattle.elf_file.specs.SourceRows.{KnownRow}
use Rattle.elf_file.specs.declared.lines.opcodes.Coding.{Coding}
use Rattle.elf_file.specs.declared.lines.opcodes.Row.{Row}

-- header_length, and the bytes of the header and of the program
abbrev pub parts_behind : ℕ → List ℕ → Option UnitParts
parts_behind version bytes = option_and_then (λ size.
    if nat_le size.0 (length size.1) then Some (record { version = version; header = take size.0 size.1; program = drop size.0 size.1 }) else None) (fixed_at 4 bytes)

-- address_size of version 5, which is 8, and segment_selector_size, which is 0
abbrev pub behind_sizes : List ℕ → Option (List ℕ)
behind_sizes bytes = if nat_le 2 (length bytes) && ((slice_index bytes 0 == 8) && (slice_index bytes 1 == 0)) then Some (drop 2 bytes) else None

-- of version 4 or 5
abbrev pub parts_of : List ℕ → Option UnitParts
parts_of bytes = option_and_then (λ version.
    if version.0 == 4 then parts_behind 4 version.1 else
    if version.0 == 5 then option_and_then (parts_behind 5) (behind_sizes version.1) else None) (fixed_at 2 bytes)

-- a byte with a sign
abbrev pub signed_byte : ℕ → ℤ
signed_byte byte = if nat_lt byte 128 then pos byte else pos byte -ℤ pos 256

-- how many numbers follow each standard opcode, from 1 to 12
abbrev pub standard_counts : List ℕ
standard_counts = 0 ∷ 1 ∷ 1 ∷ 1 ∷ 1 ∷ 0 ∷ 0 ∷ 0 ∷ 1 ∷ 0 ∷ 0 ∷ 1 ∷ []

-- one operation an instruction, a line_range that isn't 0, opcode_base 13 and standard_opcode_lengths as they are counted above
abbrev pub is_coding : List ℕ → Bool
is_coding header = nat_le 18 (length header) && ((slice_index header 1 == 1) && (not (slice_index header 4 == 0)
    && ((slice_index header 5 == 13) && bytes_eq (take 12 (drop 6 header)) standard_counts)))

-- minimum_instruction_length, line_base and line_range, and the bytes behind them; default_is_stmt is any
abbrev pub coding_at : List ℕ → Option (Coding × List ℕ)
coding_at header = if is_coding header
    then Some (record { least = slice_index header 0; base = signed_byte (slice_index header 3); range = slice_index header 4 }, drop 18 header) else None

-- the last row of a program that has one ends its sequence
abbrev pub is_ended : List Row → Bool
is_ended rows = option_map_or (λ (row : Row). row.ends) (slice_get rows (length rows - 1)) true

abbrev pub ended_rows : List Row → Option (List Row)
ended_rows rows = if is_ended rows then Some rows else None

-- the rows of a program, where its last one ends its sequence
abbrev pub program_rows : Coding → List ℕ → Option (List Row)
program_rows coding program = option_and_then ended_rows (rows_of coding program)

-- a row with the path of its file
abbrev pub source_row : ℕ → List (List ℕ) → Row → KnownRow
source_row version files row = record { address = row.address; path = path_of version files row.file; line = row.line; ends = row.ends }

abbrev pub rows_of_parts : TextsByPlace → UnitParts → Option (List KnownRow)
rows_of_parts texts parts = option_and_then (λ coding. option_and_then (λ files.
    option_map (map (source_row parts.version files)) (program_rows coding.0 parts.program))
    (files_of parts.version texts coding.1)) (coding_at parts.header)

-- the rows of a unit, behind its length; None where it isn't read
abbrev pub rows_of_unit : TextsByPlace → List ℕ → Option (List KnownRow)
rows_of_unit texts unit = option_and_then (rows_of_parts texts) (parts_of unit)

-- these rows, of a unit that is read
abbrev pub given_rows : List KnownRow → Option (List KnownRow)
given_rows rows = Some rows

-- a unit by its length, which is below 0xfffffff0, and the bytes behind it
abbrev pub unit_at : List ℕ → Option (List ℕ × List ℕ)
unit_at bytes = option_and_then (λ size.
    if nat_lt size.0 0xffff_fff0 && nat_le size.0 (length size.1) then Some (take size.0 size.1, drop size.0 size.1) else None) (fixed_at 4 bytes)

-- the units of a table; one whose length isn't in it is None, and ends them
abbrev pub units_in : ℕ → List ℕ → List (Option (List ℕ))
units_in n [] = []
units_in zero (byte ∷ bytes) = None ∷ []
units_in (suc n) (byte ∷ bytes) = option_map_or (λ unit. Some unit.0 ∷ units_in n unit.1) (unit_at (byte ∷ bytes)) (None ∷ [])

-- a table of over 4,194,304 bytes isn't read
abbrev pub units_of : List ℕ → List (Option (List ℕ))
units_of table = if nat_lt 4_194_304 (length table) then None ∷ [] else units_in (length table) table

-- what a unit gives, if it is read
abbrev pub read_unit : TextsByPlace → Option (List ℕ) → Option (List KnownRow)
read_unit texts unit = option_and_then (rows_of_unit texts) unit

abbrev pub is_read : TextsByPlace → Option (List ℕ) → Bool
is_read texts unit = is_some (read_unit texts unit)

abbrev pub rows_given : TextsByPlace → Option (List ℕ) → List KnownRow
rows_given texts unit = unwrap_or (read_unit texts unit) []
