-- Numbers as a trace file writes them: no digit is needless, and letters are lower-case.
use Rattle.std.specs.Prelude.{◌≡◌, ◌==◌, ◌&&◌, ℕ, Bool, false, List, [], ◌∷◌, ◌++◌, if◌then◌else◌, map, nat_le}
use Rattle.std.specs.Fmt.{digit_glyph}
use Rattle.std.specs.Int.Digits.{digits_of}
use Rattle.text.specs.Numbers.{IsOf}
use Rattle.text.specs.declared.numbers.Number.{Number}

-- the digits of a number in a radix
unfoldable pub numeral : ℕ → ℕ → List ℕ
numeral radix n = if n == 0 then 48 ∷ [] else map (digit_glyph false) (digits_of radix n)

-- the digits write a number that is known as this one
pub record IsNumberOf (radix : ℕ) (digits : List ℕ) (number : Number) : Type 0 where
  pub value : ℕ
  pub written : digits ≡ numeral radix value
  pub known : IsOf value number

-- the text begins with a number that is known as this one, and then comes the byte
pub record IsNumberBefore (radix stop : ℕ) (text : List ℕ) (number : Number) (rest : List ℕ) : Type 0 where
  pub value : ℕ
  pub whole : text ≡ numeral radix value ++ stop ∷ rest
  pub known : IsOf value number

-- a zero with further digits behind it
abbrev pub has_needless_zero : List ℕ → Bool
has_needless_zero [] = false
has_needless_zero (byte ∷ []) = false
has_needless_zero (byte ∷ next ∷ rest) = byte == 48

-- `A` to `Z`
abbrev pub is_capital : ℕ → Bool
is_capital byte = nat_le 65 byte && nat_le byte 90
