-- What the values found for words and options say: names of files, numbers within their limits, and names of images.
use Rattle.std.specs.Prelude.{◌≡◌, ◌≢◌, ◌≤◌, ◌<◌, ◌^◌, ℕ, Bool, false, List, [], ◌∷◌, IfSome, Option, Some, None, String, codes, option_map, string_bytes}
use Rattle.std.specs.declared.alloc.Global.{Global}
use Rattle.std.specs.Str.{bytes_eq}
use Rattle.std.specs.Str.Parse.{IsNumeral, digits_value}
use Rattle.clap.specs.Words.{Row, Text, first_of}
use Rattle.text.specs.Grammar.{IsImageName}
use Rattle.text.specs.declared.image_name.name.ImageName.{ImageName}
use Rattle.arguments.specs.Codes.{IsMeaningOf}
use Rattle.arguments.specs.declared.codes.table.Meaning.{Meaning}

-- the word that has to be given
abbrev pub IsWord : Text → List Row → String Global → Type 0
IsWord name rows word = first_of name rows ≡ Some (string_bytes word)

-- clap's word for an option without a value that the line has
abbrev pub is_set : Option Text → Bool
is_set None = false
is_set (Some text) = bytes_eq text (codes "true")

-- a text that an option takes as a file's name: it has a first character, which isn't `-`
abbrev pub IsFileName : Text → Type 0
IsFileName [] = ⊥
IsFileName (first ∷ rest) = first ≢ 45

-- the name of a file, the value of an option that may be left out
pub record IsOptional (name : Text) (rows : List Row) (value : Option (String Global)) : Type 0 where
  pub found : first_of name rows ≡ option_map string_bytes value
  pub names : IfSome (first_of name rows) IsFileName

-- the number that a text writes in decimal digits, within limits
abbrev pub IsDecimal : ℕ → ℕ → Text → ℕ → Type 0
IsDecimal low high text n = IsNumeral 10 text × (n ≡ digits_value 10 text) × (low ≤ n) × (n ≤ high)

-- the number of an option, or the default of an option that isn't given
abbrev pub IsNumber : ℕ → ℕ → ℕ → Option Text → ℕ → Type 0
IsNumber default low high None n = n ≡ default
IsNumber default low high (Some text) n = IsDecimal low high text n

-- the number of a word that has to be given: any below 2^32
abbrev pub IsNumberWord : Option Text → ℕ → Type 0
IsNumberWord None n = ⊥
IsNumberWord (Some text) n = IsDecimal 0 4294967295 text n

-- the number of a word that may be left out: any below 2^32
abbrev pub IsOptionalNumber : Option Text → Option ℕ → Type 0
IsOptionalNumber None number = number ≡ None
IsOptionalNumber (Some text) number = (n : ℕ) × (number ≡ Some n) × IsDecimal 0 4294967295 text n

-- the name of an image, of a word that has to be given
abbrev pub IsImageWord : Option Text → ImageName → Type 0
IsImageWord None image = ⊥
IsImageWord (Some text) image = IsImageName text image

-- the name of an image, the value of an option that may be left out
abbrev pub IsOptionalImage : Option Text → Option ImageName → Type 0
IsOptionalImage None image = image ≡ None
IsOptionalImage (Some text) image = (i : ImageName) × (image ≡ Some i) × IsImageName text i

-- the most steps of a run: 1,000,000 where the line doesn't say
abbrev pub IsSteps : List Row → ℕ → Type 0
IsSteps rows steps = IsNumber 1000000 1 500000000 (first_of (codes "steps") rows) steps

-- the most steps of recovery on a crash image: 100,000 where the line doesn't say
abbrev pub IsRecoverySteps : List Row → ℕ → Type 0
IsRecoverySteps rows steps = IsNumber 100000 1 500000000 (first_of (codes "steps") rows) steps

-- the seed of an interleaving, which has to be given: any number below 2^64
abbrev pub IsWideNumber : Option Text → ℕ → Type 0
IsWideNumber None n = ⊥
IsWideNumber (Some text) n = IsNumeral 10 text × (n ≡ digits_value 10 text) × (n < 2 ^ 64)

abbrev pub IsSeed : List Row → ℕ → Type 0
IsSeed rows seed = IsWideNumber (first_of (codes "seed") rows) seed

-- the evictions of an interleaving: none where the line doesn't say
abbrev pub IsEvictions : List Row → ℕ → Type 0
IsEvictions rows evictions = IsNumber 0 0 65536 (first_of (codes "evictions") rows) evictions

-- the harts of a machine: 1 where the line doesn't say
abbrev pub IsHarts : List Row → ℕ → Type 0
IsHarts rows harts = IsNumber 1 1 8 (first_of (codes "harts") rows) harts

-- the workers that judge a run or search: 1 where the line doesn't say
abbrev pub IsWorkers : List Row → ℕ → Type 0
IsWorkers rows workers = IsNumber 1 1 8 (first_of (codes "workers") rows) workers

-- the most states of a search: 1,000,000 where the line doesn't say
abbrev pub IsStates : List Row → ℕ → Type 0
IsStates rows states = IsNumber 1000000 1 4294967295 (first_of (codes "states") rows) states

-- the most lines of a cache: 16 where the line doesn't say
abbrev pub IsCapacity : List Row → ℕ → Type 0
IsCapacity rows capacity = IsNumber 16 1 16384 (first_of (codes "capacity") rows) capacity

-- what the code of a word means, which is one of the table; None where the word isn't given
abbrev pub IsCodeWord : Option Text → Option Meaning → Type 0
IsCodeWord None meaning = meaning ≡ None
IsCodeWord (Some text) meaning = (m : Meaning) × (meaning ≡ Some m) × IsMeaningOf text m
