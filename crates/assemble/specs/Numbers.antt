-- Numbers in a statement, with at most one sign.
use Rattle.std.specs.Prelude.{ℕ, ◌+◌, ◌/◌, ◌%◌, ◌^◌, Bool, true, false, ◌&&◌, List, [], ◌∷◌, Option, Some, None, Result, Ok, Err, ℤ, pos, negsuc, neg_ℤ, int_le, unsigned_abs, ◌==◌, option_map, if◌then◌else◌}
use Rattle.std.specs.Int.{w32, cast_unsigned}
use Rattle.word_bits.specs.Numbers.{signed}
use Rattle.assemble.specs.declared.asm_line.fault.AsmCode.{AsmCode}
use Rattle.assemble.specs.declared.asm_line.fault.AsmCode.TheVariants.{Range}
use Rattle.assemble.specs.declared.asm_line.operands.SignedNumber.{SignedNumber}
use Rattle.assemble.specs.AsmLineFaults.{◌>>=◌}
use Rattle.asm_lex.specs.Kinds.{Lexeme, number, comma, plus, minus}

-- a number with a sign
abbrev pub unsigned : Option ℕ → SignedNumber
unsigned size = record { is_negative = false; size = size }

abbrev pub negated : Option ℕ → SignedNumber
negated size = record { is_negative = true; size = size }

-- the number that stands first, after at most one sign, and what follows it
abbrev pub number_then : List Lexeme → Option (SignedNumber × List Lexeme)
number_then (number size text ∷ rest) = Some (unsigned size, rest)
number_then (plus ∷ number size text ∷ rest) = Some (unsigned size, rest)
number_then (minus ∷ number size text ∷ rest) = Some (negated size, rest)
number_then ls = None

-- one number or more, between commas
abbrev pub with_first : SignedNumber → Option (List SignedNumber) → Option (List SignedNumber)
with_first n ns = option_map (λ more. n ∷ more) ns

unfoldable pub numbers_of : List Lexeme → Option (List SignedNumber)
numbers_of (number size text ∷ []) = Some (unsigned size ∷ [])
numbers_of (plus ∷ number size text ∷ []) = Some (unsigned size ∷ [])
numbers_of (minus ∷ number size text ∷ []) = Some (negated size ∷ [])
numbers_of (number size text ∷ comma ∷ rest) = with_first (unsigned size) (numbers_of rest)
numbers_of (plus ∷ number size text ∷ comma ∷ rest) = with_first (unsigned size) (numbers_of rest)
numbers_of (minus ∷ number size text ∷ comma ∷ rest) = with_first (negated size) (numbers_of rest)
numbers_of ls = None

-- the integer that a sign and a size give
abbrev pub integer : Bool → ℕ → ℤ
integer true n = neg_ℤ (pos n)
integer false n = pos n

-- the integer that a number is
abbrev pub exact_by : Bool → Option ℕ → Result ℤ AsmCode
exact_by is_negative None = Err Range
exact_by is_negative (Some n) = Ok (integer is_negative n)

abbrev pub exact : SignedNumber → Result ℤ AsmCode
exact n = exact_by n.is_negative n.size

-- the same, where it is in a range
abbrev pub in_range : ℤ → ℤ → ℤ → Result ℤ AsmCode
in_range z low high = if int_le low z && int_le z high then Ok z else Err Range

abbrev pub within : SignedNumber → ℤ → ℤ → Result ℤ AsmCode
within n low high = exact n >>= λ z. in_range z low high

-- an even integer
abbrev pub even : ℤ → Result ℤ AsmCode
even z = if unsigned_abs z % 2 == 0 then Ok z else Err Range

-- the distance of a branch, even and of 13 bits, and that of a jump, even and of 21 bits
abbrev pub branch_reach : ℤ → Result ℤ AsmCode
branch_reach z = in_range z (negsuc 4095) (pos 4095) >>= even

abbrev pub jump_reach : ℤ → Result ℤ AsmCode
jump_reach z = in_range z (negsuc 1048575) (pos 1048575) >>= even

-- a distance that was found, where it is in reach
abbrev pub reached : (ℤ → Result ℤ AsmCode) → Result ℤ AsmCode → Result ℤ AsmCode
reached reach found = found >>= reach

-- the halves of a number of 32 bits: its upper 20 bits, rounded to the nearest multiple of 2^12, and what is left, which
-- is signed
abbrev pub upper_half : ℤ → ℕ
upper_half z = (cast_unsigned w32 z + 0x800) / 2 ^ 12 % 2 ^ 20

abbrev pub lower_half : ℤ → ℤ
lower_half z = signed (cast_unsigned w32 z) 12
