-- The addresses that words stand for by the labels of a source, or the names of an executable: FILE:LINE, NAME, and NAME+0xOFF.
use Rattle.std.specs.Prelude.{◌≡◌, ◌⊎◌, ◌+◌, ◌^◌, ◌<◌, ◌==◌, ◌++◌, ℕ, Bool, true, false, List, [], ◌∷◌, Option, Some, None, codes, if◌then◌else◌, is_some}
use Rattle.std.specs.Str.Parse.{IsNumeral, digits_value}
use Rattle.assemble.specs.Labels.{place_at}
use Rattle.assemble.specs.declared.labels.Labels.{Labels}
use Rattle.elf_file.specs.FunctionSymbols.{FunctionSymbol}
use Rattle.elf_file.specs.Functions.{address_of}
use Rattle.elf_file.specs.Lines.{IsFirstPc}
use Rattle.elf_file.specs.SourceRows.{KnownRow}
use Rattle.report.specs.declared.place.Places.{Places}
use Rattle.report.specs.declared.place.Places.TheVariants.{Executable, Source}

-- the two parts of a word
abbrev pub two_parts : List ℕ → List ℕ → Option (List ℕ × List ℕ)
two_parts front back = Some (front, back)

-- those of a word with one byte more in front
abbrev pub parted_behind : ℕ → ℕ → List ℕ → Option (List ℕ × List ℕ) → Option (List ℕ × List ℕ)
parted_behind separator byte bytes None = if byte == separator then two_parts [] bytes else None
parted_behind separator byte bytes (Some parts) = two_parts (byte ∷ parts.0) parts.1

-- what stands before the last such byte of a word, and behind it
unfoldable pub parted : ℕ → List ℕ → Option (List ℕ × List ℕ)
parted separator [] = None
parted separator (byte ∷ bytes) = parted_behind separator byte bytes (parted separator bytes)

-- the number of a line, which has 32 bits, in decimal digits
pub record IsLineNumber (digits : List ℕ) (line : ℕ) : Type 0 where
  pub numeral : IsNumeral 10 digits
  pub value : line ≡ digits_value 10 digits
  pub small : line < 2 ^ 32

-- `FILE:LINE`, parted by its last colon, which is 58: the least address of text with that line
pub record IsAtLine (rows : List KnownRow) (word : List ℕ) (address : ℕ) : Type 0 where
  pub file : List ℕ
  pub digits : List ℕ
  pub line : ℕ
  pub spelled : parted 58 word ≡ two_parts file digits
  pub number : IsLineNumber digits line
  pub first : IsFirstPc rows file line address

-- `NAME+0xOFF`, parted by its last plus sign, which is 43
pub record SaysOffset (word name : List ℕ) (offset : ℕ) : Type 0 where
  pub digits : List ℕ
  pub spelled : parted 43 word ≡ two_parts name (codes "0x" ++ digits)
  pub numeral : IsNumeral 16 digits
  pub value : offset ≡ digits_value 16 digits

-- so many bytes behind the first one of the first function of the name
pub record IsBehind (functions : List FunctionSymbol) (name : List ℕ) (offset address : ℕ) : Type 0 where
  pub start : ℕ
  pub begins : address_of functions name ≡ Some start
  pub address_is : address ≡ start + offset

pub record IsAtOffset (functions : List FunctionSymbol) (word : List ℕ) (address : ℕ) : Type 0 where
  pub name : List ℕ
  pub offset : ℕ
  pub says : SaysOffset word name offset
  pub behind : IsBehind functions name offset address

-- the word is a name alone
abbrev pub SaysNoOffset : List ℕ → Type 0
SaysNoOffset word = (name : List ℕ) (offset : ℕ) → ¬ (SaysOffset word name offset)

-- `NAME+0xOFF`, or `NAME`: the first byte of the first function of that name
abbrev pub IsOfFunction : List FunctionSymbol → List ℕ → ℕ → Type 0
IsOfFunction functions word address = IsAtOffset functions word address ⊎ (SaysNoOffset word × (address_of functions word ≡ Some address))

-- a word with a colon stands for a line, and any other for a function
abbrev pub StandsFor : List KnownRow → List FunctionSymbol → List ℕ → ℕ → Type 0
StandsFor rows functions word address = IsAtLine rows word address ⊎ ((parted 58 word ≡ None) × IsOfFunction functions word address)

-- no address of 64 bits is so
abbrev pub HasNoAddress : (ℕ → Type 0) → Type 0
HasNoAddress P = (address : ℕ) → address < 2 ^ 64 → ¬ (P address)

-- the word is a label, which stands for its place
abbrev pub IsLabelled : Labels → List ℕ → ℕ → Type 0
IsLabelled labels word address = place_at labels word ≡ Some address

-- a word is taken for a name: of a source a label, of an executable any word, and of another program none
abbrev pub have_name : Places → List ℕ → Bool
have_name (Source numbers labels) word = is_some (place_at labels word)
have_name (Executable lines functions) word = true
have_name places word = false

abbrev pub are_of_executable : Places → Bool
are_of_executable (Executable lines functions) = true
are_of_executable places = false

abbrev pub StandsIn : Places → List ℕ → ℕ → Type 0
StandsIn (Source numbers labels) word address = IsLabelled labels word address
StandsIn (Executable lines functions) word address = StandsFor lines.rows functions word address
StandsIn places word address = ⊥
