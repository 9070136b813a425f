-- The texts that name a crash image of a moment: by its number, or by the lines that stand above their floor.
use Rattle.std.specs.Prelude.{◌≡◌, ◌<◌, ◌^◌, ◌==◌, ◌⊎◌, ◌++◌, ℕ, List, [], codes, map}
use Rattle.std.specs.List.{AllZip, slice_split}
use Rattle.std.specs.List.Sorted.{IsStrictlyIncreasing}
use Rattle.std.specs.Str.Parse.{IsNumeral, digits_value}
use Rattle.text.specs.declared.image_name.name.ImageName.{ImageName}
use Rattle.text.specs.declared.image_name.name.ImageName.TheVariants.{Number, Cut}

-- decimal digits, leading zeros among them, of a number of 32 bits
pub record IsNumber (digits : List ℕ) (number : ℕ) : Type 0 where
  pub numeral : IsNumeral 10 digits
  pub value : number ≡ digits_value 10 digits
  pub small : number < 2 ^ 32

-- `lN:K`: the line N, and K as the number of its stores
pub record IsEntry (word : List ℕ) (entry : ℕ × ℕ) : Type 0 where
  pub line_digits : List ℕ
  pub number_digits : List ℕ
  pub spelled : word ≡ codes "l" ++ (line_digits ++ (codes ":" ++ number_digits))
  pub line : IsNumber line_digits entry.0
  pub number : IsNumber number_digits entry.1

-- the words of a cut's text are what stands between its commas
abbrev pub words : List ℕ → List (List ℕ)
words text = slice_split (λ byte. byte == 44) text

-- the lines go strictly upwards
abbrev pub IsUpward : List (ℕ × ℕ) → Type 0
IsUpward entries = IsStrictlyIncreasing (map (λ entry. entry.0) entries)

-- the words say the entries, one by one, and their lines go strictly upwards
pub record IsListing (text : List ℕ) (entries : List (ℕ × ℕ)) : Type 0 where
  pub says : AllZip IsEntry (words text) entries
  pub upward : IsUpward entries

-- `floor` where no line stands above its floor, and else the lines that do
abbrev pub IsCutText : List ℕ → List (ℕ × ℕ) → Type 0
IsCutText text entries = ((text ≡ codes "floor") × (entries ≡ [])) ⊎ IsListing text entries

-- the text names the image so
abbrev pub IsImageName : List ℕ → ImageName → Type 0
IsImageName text (Number number) = IsNumber text number
IsImageName text (Cut entries) = IsCutText text entries
