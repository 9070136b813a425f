-- What is printed of a line's bytes.
use Rattle.std.specs.Prelude.{ℕ, ◌+◌, ◌*◌, ◌/◌, ◌%◌, List, [], ◌∷◌, ◌++◌, false, codes}
use Rattle.std.specs.Fmt.{digit_glyph, digits}
use Rattle.std.specs.List.{flat_map, range_with_len, slice_range}

-- the end of a line, LF
abbrev pub line_end : List ℕ
line_end = 10 ∷ []

-- plain lower-case hexadecimal
abbrev pub hexadecimal : ℕ → List ℕ
hexadecimal n = digits 16 false n

-- the two lower-case hexadecimal digits of a byte
abbrev pub two_digits : ℕ → List ℕ
two_digits byte = digit_glyph false (byte / 16) ∷ digit_glyph false (byte % 16) ∷ []

-- a byte after a blank
abbrev pub byte_text : ℕ → List ℕ
byte_text byte = codes " " ++ two_digits byte

abbrev pub bytes_text : List ℕ → List ℕ
bytes_text bytes = flat_map byte_text bytes

-- the bytes at an offset of the line that begins at an address
abbrev pub row_text : ℕ → ℕ → List ℕ → List ℕ
row_text offset address bytes =
    codes "0x" ++ (hexadecimal offset ++ (codes " 0x" ++ (hexadecimal (address + offset) ++ (bytes_text bytes ++ line_end))))

-- sixteen bytes of a line
abbrev pub row_of : ℕ → List ℕ → ℕ → List ℕ
row_of line bytes row = row_text (16 * row) (0x4000_0000 + 64 * line) (slice_range bytes (16 * row) (16 * row + 16))

-- the bytes of the line of this number, in four rows
abbrev pub line_text : ℕ → List ℕ → List ℕ
line_text line bytes = flat_map (row_of line bytes) (range_with_len 0 4)
