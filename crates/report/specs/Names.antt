-- What is printed of the name in an entry.
use Rattle.std.specs.Prelude.{ℕ, Bool, not, ◌&&◌, nat_le, ◌==◌, List, [], ◌∷◌, if◌then◌else◌}
use Rattle.std.specs.List.{flat_map}
use Rattle.report.specs.Rows.{two_digits}

-- the byte stands for itself: it is printable ASCII, and no backslash, which is 92
abbrev pub is_plain : ℕ → Bool
is_plain byte = nat_le 0x20 byte && nat_le byte 0x7e && not (byte == 92)

-- `\xhh` for any other
abbrev pub name_byte : ℕ → List ℕ
name_byte byte = if is_plain byte then byte ∷ [] else 92 ∷ 120 ∷ two_digits byte

abbrev pub name_text : List ℕ → List ℕ
name_text name = flat_map name_byte name
