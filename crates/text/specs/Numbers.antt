-- The numbers that words write.
use Rattle.std.specs.Prelude.{◌≡◌, ◌≤◌, ◌^◌, ◌⊎◌, ◌++◌, ℕ, List, codes}
use Rattle.std.specs.Str.Parse.{IsNumeral, digits_value}
use Rattle.text.specs.declared.numbers.Number.{Number}
use Rattle.text.specs.declared.numbers.Number.TheVariants.{Small, Large}

-- what a number of 64 bits, or one past them, is of a whole number
abbrev pub IsOf : ℕ → Number → Type 0
IsOf value (Small number) = number ≡ value
IsOf value Large = 2 ^ 64 ≤ value

-- digits of a radix write the number: one or more, leading zeros among them
pub record Writes (radix : ℕ) (digits : List ℕ) (number : Number) : Type 0 where
  pub numeral : IsNumeral radix digits
  pub value : IsOf (digits_value radix digits) number

-- `0x` and hexadecimal digits
pub record IsHexadecimal (word : List ℕ) (number : Number) : Type 0 where
  pub digits : List ℕ
  pub spelled : word ≡ codes "0x" ++ digits
  pub writes : Writes 16 digits number

abbrev pub IsWritten : List ℕ → Number → Type 0
IsWritten word number = Writes 10 word number ⊎ IsHexadecimal word number
