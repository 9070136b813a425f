-- How the name of a crash image is written.
use Rattle.std.specs.Prelude.{◌<◌, ◌^◌, ◌++◌, ℕ, List, [], ◌∷◌, All, codes, decimal, map}
use Rattle.std.specs.List.{join_with_byte}
use Rattle.text.specs.Grammar.{IsUpward}
use Rattle.text.specs.declared.image_name.name.ImageName.{ImageName}
use Rattle.text.specs.declared.image_name.name.ImageName.TheVariants.{Number, Cut}

-- `lN:K`
abbrev pub entry_text : ℕ × ℕ → List ℕ
entry_text entry = codes "l" ++ (decimal entry.0 ++ (codes ":" ++ decimal entry.1))

-- the entries with a comma between each two; `floor` where there is none
abbrev pub cut_text : List (ℕ × ℕ) → List ℕ
cut_text [] = codes "floor"
cut_text (first ∷ rest) = join_with_byte 44 (map entry_text (first ∷ rest))

abbrev pub image_text : ImageName → List ℕ
image_text (Number number) = decimal number
image_text (Cut entries) = cut_text entries

-- an entry's numbers are of 32 bits
abbrev pub IsSmall : ℕ × ℕ → Type 0
IsSmall entry = (entry.0 < 2 ^ 32) × (entry.1 < 2 ^ 32)

-- a name whose lines go strictly upwards, and whose numbers are of 32 bits
abbrev pub IsProper : ImageName → Type 0
IsProper (Number number) = number < 2 ^ 32
IsProper (Cut entries) = IsUpward entries × All IsSmall entries
