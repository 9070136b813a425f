-- What the digits of numbers are.
use Rattle.std.proofs.Common.{◌≡◌, ◌<◌, ◌≤◌, ◌+◌, ◌*◌, ◌^◌, ℕ, zero, suc, List, [], ◌∷◌, length, get_or, take, inl, inr, refl, ap, ◌∙◌, arith}
use Rattle.std.proofs.Math.Nat.{mul-le-mul_left}
use Rattle.std.proofs.lemmas.Int.Digits.{digits_more, digits_value_more}
use Rattle.std.specs.Char.{digit_value}
use Rattle.std.specs.Str.Parse.{AllDigits, IsNumeral, digits_value}
use Rattle.text.specs.Numbers.{IsWritten, IsOf, Writes}
use Rattle.text.specs.declared.numbers.Number.{Number}

-- a number past 64 bits stays so
pub larger : (value radix digit : ℕ) → 2 ≤ radix → 2 ^ 64 ≤ value → 2 ^ 64 ≤ value * radix + digit
larger value radix digit least past =
    let some : 1 ≤ radix = omega arith in
    let grown = mul-le-mul_left value some in
    omega (arith, grown)

-- a word that begins with `0x` is no decimal number
no_decimal : (digits : List ℕ) → AllDigits 10 (48 ∷ 120 ∷ digits) → ⊥
no_decimal digits all = let x : digit_value 120 < 10 = all.1.0 in absurd (omega arith)

pub hexadecimal_said : (word digits : List ℕ) (number : Number) → word ≡ 48 ∷ 120 ∷ digits → Writes 16 digits number → IsWritten word number
hexadecimal_said word digits number spelled writes = inr (record { digits = digits; spelled = spelled; writes = writes })

same_digits : (xs ys word : List ℕ) → word ≡ 48 ∷ 120 ∷ xs → word ≡ 48 ∷ 120 ∷ ys → xs ≡ ys
same_digits xs ys word a b = cc

decimal_word : (word digits : List ℕ) → word ≡ 48 ∷ 120 ∷ digits → AllDigits 10 word → ⊥
decimal_word word digits spelled all = no_decimal digits (rw spelled at all)

numeral_of : (digits other : List ℕ) → other ≡ digits → IsNumeral 16 other → IsNumeral 16 digits
numeral_of digits other e n = rw (← e) n

pub hexadecimal_none : (word digits : List ℕ) (number : Number) → word ≡ 48 ∷ 120 ∷ digits → ¬ (IsNumeral 16 digits)
    → IsWritten word number → ⊥
hexadecimal_none word digits number spelled none said = elim said [
  | inl writes ↦ decimal_word word digits spelled writes.numeral.1
  | inr hex ↦ none (numeral_of digits hex.digits (same_digits hex.digits digits word hex.spelled spelled) hex.writes.numeral)
]

pub decimal_none : (word : List ℕ) (number : Number) → ((digits : List ℕ) → word ≡ 48 ∷ 120 ∷ digits → ⊥) → ¬ (IsNumeral 10 word)
    → IsWritten word number → ⊥
decimal_none word number other none said = elim said [
  | inl writes ↦ none writes.numeral
  | inr hex ↦ other hex.digits hex.spelled
]

digit_at : (radix : ℕ) (digits : List ℕ) (i : ℕ) → AllDigits radix digits → i < length digits → digit_value (get_or digits i 0) < radix
digit_at radix [] i all inside = absurd (omega arith)
digit_at radix (c ∷ digits) zero all inside = all.0
digit_at radix (c ∷ digits) (suc i) all inside = digit_at radix digits i all.1 (omega arith)

-- a byte that is no digit
pub no_digit : (radix : ℕ) (digits : List ℕ) (i c : ℕ) → i < length digits → c ≡ get_or digits i 0 → (digit_value c < radix → ⊥)
    → IsNumeral radix digits → ⊥
no_digit radix digits i c inside same none n = none (rw same (digit_at radix digits i n.1 inside))

-- a digit more
value_alike : (value other : ℕ) (number : Number) → value ≡ other → IsOf value number → IsOf other number
value_alike value other number e is = rw (← e) is

pub record Grows (radix : ℕ) (digits : List ℕ) (number : Number) : Type 0 where
  pub digits_too : AllDigits radix digits
  pub value : IsOf (digits_value radix digits) number

pub digit_more : (radix : ℕ) (digits : List ℕ) (i c digit : ℕ) (number later : Number) → i < length digits → c ≡ get_or digits i 0
    → digit_value c < radix → digit ≡ digit_value c → AllDigits radix (take i digits) → IsOf (digits_value radix (take i digits)) number
    → ((value : ℕ) → IsOf value number → IsOf (value * radix + digit) later) → Grows radix (take (i + 1) digits) later
digit_more radix digits i c digit number later inside same small told all is grown =
    let here : digit_value (get_or digits i 0) < radix = rw same at small in
    let value : ℕ = digits_value radix (take i digits) in
    let digit_is : digit ≡ digit_value (get_or digits i 0) = told ∙ ap (λ (n : ℕ). digit_value n) same in
    let sum : value * radix + digit ≡ digits_value radix (take (i + 1) digits) =
    let more = digits_value_more radix digits i inside in rw (more, digit_is) refl in
    record {
      digits_too = digits_more radix digits i inside all here;
      value = value_alike (value * radix + digit) (digits_value radix (take (i + 1) digits)) later sum (grown value is);
    }
