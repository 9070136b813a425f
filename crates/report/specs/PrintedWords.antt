-- Place words of a trace file as they are printed.
use Rattle.std.specs.Prelude.{ℕ, Bool, ◌&&◌, nat_le, ◌==◌, List, [], ◌∷◌, if◌then◌else◌}
use Rattle.std.specs.List.{flat_map}
use Rattle.report.specs.Rows.{two_digits}

-- the byte stands for itself: it is printable ASCII or a blank
abbrev pub is_shown : ℕ → Bool
is_shown byte = nat_le 0x20 byte && nat_le byte 0x7e

-- `\xhh` for any other
abbrev pub text_byte : ℕ → List ℕ
text_byte byte = if is_shown byte then byte ∷ [] else 92 ∷ 120 ∷ two_digits byte

abbrev pub printed_words : List ℕ → List ℕ
printed_words words = flat_map text_byte words

-- the same in a string of JSON (RFC 8259, section 7), where a quotation mark, which is 34, and a backslash stand behind a backslash
abbrev pub json_byte : ℕ → List ℕ
json_byte byte = if byte == 34 then 92 ∷ 34 ∷ [] else if byte == 92 then 92 ∷ 92 ∷ [] else if is_shown byte then byte ∷ [] else 92 ∷ 92 ∷ 120 ∷ two_digits byte

abbrev pub json_words : List ℕ → List ℕ
json_words words = flat_map json_byte words
