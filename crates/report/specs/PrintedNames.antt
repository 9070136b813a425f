-- Names of an executable as they are printed.
use Rattle.std.specs.Prelude.{ℕ, Bool, not, ◌&&◌, nat_le, ◌==◌, List, [], ◌∷◌, if◌then◌else◌}
use Rattle.std.specs.List.{flat_map}
use Rattle.report.specs.Rows.{two_digits}

-- the byte stands for itself: it is printable ASCII, no blank, and no backslash, which is 92
abbrev pub is_graphic : ℕ → Bool
is_graphic byte = nat_le 0x21 byte && nat_le byte 0x7e && not (byte == 92)

-- `\xhh` for any other, so that a name is one word
abbrev pub text_byte : ℕ → List ℕ
text_byte byte = if is_graphic byte then byte ∷ [] else 92 ∷ 120 ∷ two_digits byte

abbrev pub printed_name : List ℕ → List ℕ
printed_name name = flat_map text_byte name

-- the same in a string of JSON (RFC 8259, section 7), where a quotation mark, which is 34, and a backslash stand behind a backslash
abbrev pub json_byte : ℕ → List ℕ
json_byte byte = if byte == 34 then 92 ∷ 34 ∷ [] else if is_graphic byte then byte ∷ [] else 92 ∷ 92 ∷ 120 ∷ two_digits byte

abbrev pub json_name : List ℕ → List ℕ
json_name name = flat_map json_byte name
