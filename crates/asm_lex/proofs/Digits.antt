-- What the digits of numbers are.
use Rattle.std.proofs.Common.{◌≡◌, ℕ, zero, suc, ◌+◌, ◌*◌, ◌^◌, ◌-◌, ◌<◌, ◌≤◌, Bool, true, false, ◌&&◌, List, [], ◌∷◌, length, get_or, take, drop, take_all, refl, sym, ap, ◌∙◌, arith, length-take}
use Rattle.std.proofs.Math.Nat.{pow-le-pow_left, pow-le-pow_right}
use Rattle.std.proofs.lemmas.Int.Digits.{digits_more, digits_value_more, digits_value-lt}
use Rattle.std.specs.Prelude.{◌==◌, Option, Some, None, nat_lt, option_map, if◌then◌else◌}
use Rattle.std.specs.Char.{digit_value}
use Rattle.std.specs.Str.Parse.{AllDigits, IsNumeral, digits_value}
use Rattle.std.proofs.lemmas.Bool.Decides.{nat_tests}
use Rattle.text.specs.Numbers.{Writes}
use Rattle.text.specs.declared.numbers.Number.TheVariants.{Small, Large}
use Rattle.asm_lex.specs.Kinds.{number, are_digits, is_decimal, is_hexadecimal, in_word, value_of, number_of}

-- both parts of a test
pub both_left : (a b : Bool) → (a && b) ≡ true → a ≡ true
both_left true b h = refl
both_left false b h = h

pub both_right : (a b : Bool) → (a && b) ≡ true → b ≡ true
both_right true b h = h
both_right false b h = cc

never : (a : Bool) → (a && false) ≡ false
never true = refl
never false = refl

some_left : (b : ℕ) (bs : List ℕ) → (length (b ∷ bs) == 0) ≡ false
some_left b bs = grind (arith, nat_tests)

-- digits by the test are digits, and the other way round
all_digits : (radix : ℕ) (ds : List ℕ) → are_digits radix ds ≡ true → AllDigits radix ds
unfolding are_digits
all_digits radix [] h = tt
all_digits radix (d ∷ ds) h =
    let below : nat_lt (digit_value d) radix ≡ true = both_left _ _ h in
    ((let small : digit_value d < radix = grind (arith, nat_tests) in small), all_digits radix ds (both_right _ _ h))

pub digits_are : (radix : ℕ) (ds : List ℕ) → AllDigits radix ds → are_digits radix ds ≡ true
unfolding are_digits
digits_are radix [] h = refl
digits_are radix (d ∷ ds) h =
    let below : nat_lt (digit_value d) radix ≡ true = grind (arith, nat_tests, h.0) in
    rw (below) (digits_are radix ds h.1)

-- the number that they write, below 2^64 and past it
in_word_small : (n : ℕ) → n < 2 ^ 64 → in_word n ≡ Some n
unfolding in_word
in_word_small n small =
    let below : nat_lt n (2 ^ 64) ≡ true = grind (arith, nat_tests) in
    rw below refl

in_word_large : (n : ℕ) → 2 ^ 64 ≤ n → in_word n ≡ None
unfolding in_word
in_word_large n past =
    let not_below : nat_lt n (2 ^ 64) ≡ false = grind (arith, nat_tests) in
    rw not_below refl

value_there : (radix : ℕ) (ds : List ℕ) → IsNumeral radix ds → value_of radix ds ≡ Some (in_word (digits_value radix ds))
unfolding value_of
value_there radix [] h = absurd (omega (arith, h.0))
value_there radix (d ∷ ds) h = rw (digits_are radix (d ∷ ds) h.1) refl

pub small_is : (radix n : ℕ) (ds : List ℕ) → Writes radix ds (Small n) → n < 2 ^ 64 → Some (Some n) ≡ value_of radix ds
small_is radix n ds w small = rw (value_there radix ds w.numeral, ← w.value, in_word_small n small) refl

pub large_is : (radix : ℕ) (ds : List ℕ) → Writes radix ds Large → Some None ≡ value_of radix ds
large_is radix ds w = rw (value_there radix ds w.numeral, in_word_large (digits_value radix ds) w.value) refl

-- other bytes write none
none_by : (radix d : ℕ) (ds : List ℕ) (t : Bool) → are_digits radix (d ∷ ds) ≡ t → ¬ (IsNumeral radix (d ∷ ds)) → None ≡ value_of radix (d ∷ ds)
unfolding value_of
none_by radix d ds true is h = absurd (h (omega arith, all_digits radix (d ∷ ds) is))
none_by radix d ds false is h = rw is refl

none_of_none : (radix : ℕ) → None ≡ value_of radix []
unfolding value_of
none_of_none radix = refl

pub none_is : (radix : ℕ) (ds : List ℕ) → ¬ (IsNumeral radix ds) → None ≡ value_of radix ds
none_is radix [] h = none_of_none radix
none_is radix (d ∷ ds) h = none_by radix d ds (are_digits radix (d ∷ ds)) refl h

-- a piece is a number by its first byte: 48, which is 0, or another one
is_decimal_zero : (b : ℕ) (bs : List ℕ) → is_decimal (48 ∷ b ∷ bs) ≡ false
unfolding is_decimal
is_decimal_zero b bs = rw (some_left b bs) (never (are_digits 10 (48 ∷ b ∷ bs)))

zero_number : number_of (48 ∷ []) ≡ Some (number (Some 0) (48 ∷ []))
unfolding number_of is_decimal are_digits in_word
zero_number = refl

pub zero_alone : (bs : List ℕ) → length bs ≡ 0 → Some (number (Some 0) (48 ∷ bs)) ≡ number_of (48 ∷ bs)
zero_alone [] none = sym zero_number
zero_alone (b ∷ bs) none = absurd (omega arith)

by_test : (t : Bool) (v : Option ℕ) (text : List ℕ) → option_map (λ w. number w text) (if t then Some v else None) ≡ (if t then Some (number v text) else None)
by_test true v text = refl
by_test false v text = refl

hexadecimal_number : (ds : List ℕ) → option_map (λ v. number v (48 ∷ 120 ∷ ds)) (value_of 16 ds) ≡ number_of (48 ∷ 120 ∷ ds)
unfolding number_of value_of is_hexadecimal
hexadecimal_number [] = rw (is_decimal_zero 120 []) refl
hexadecimal_number (d ∷ ds) =
    rw (is_decimal_zero 120 (d ∷ ds), some_left d ds) (by_test (are_digits 16 (d ∷ ds)) (in_word (digits_value 16 (d ∷ ds))) (48 ∷ 120 ∷ d ∷ ds))

pub zero_then_digits : (bs : List ℕ) (found : Option (Option ℕ)) → 0 < length bs → get_or bs 0 0 ≡ 120 → found ≡ value_of 16 (take (length bs - 1) (drop 1 bs))
    → option_map (λ v. number v (48 ∷ bs)) found ≡ number_of (48 ∷ bs)
zero_then_digits [] found some first value = absurd (omega arith)
zero_then_digits (b ∷ bs) found some first value =
    let whole : take (length (b ∷ bs) - 1) bs ≡ bs = take_all (length (b ∷ bs) - 1) bs (omega arith) in
    rw (value, first, whole) (hexadecimal_number bs)

not_hexadecimal : (b : ℕ) (bs : List ℕ) → (b == 120) ≡ false → is_hexadecimal (48 ∷ b ∷ bs) ≡ false
unfolding is_hexadecimal
not_hexadecimal b bs other = rw other refl

other_number : (b : ℕ) (bs : List ℕ) → (b == 120) ≡ false → None ≡ number_of (48 ∷ b ∷ bs)
unfolding number_of
other_number b bs other = rw (is_decimal_zero b bs, not_hexadecimal b bs other) refl

pub zero_then_other : (bs : List ℕ) → 0 < length bs → (get_or bs 0 0 ≡ 120 → ⊥) → None ≡ number_of (48 ∷ bs)
zero_then_other [] some other = absurd (omega arith)
zero_then_other (b ∷ bs) some other = other_number b bs (grind (arith, nat_tests))

pub nothing_written : (bs : List ℕ) → length bs ≡ 0 → None ≡ number_of bs
unfolding number_of is_decimal is_hexadecimal
nothing_written [] none = refl
nothing_written (b ∷ bs) none = absurd (omega arith)

pub zero_first : (bs rest : List ℕ) (found : Option (Option ℕ)) → 0 < length bs → get_or bs 0 0 ≡ 48 → rest ≡ drop 1 bs
    → option_map (λ v. number v (48 ∷ rest)) found ≡ number_of (48 ∷ rest) → option_map (λ v. number v bs) found ≡ number_of bs
zero_first [] rest found some first is written = absurd (omega arith)
zero_first (b ∷ bs) rest found some first is written = rw (first, ← is) written

decimal_tests : (b : ℕ) (bs : List ℕ) → (b == 48) ≡ false → is_decimal (b ∷ bs) ≡ are_digits 10 (b ∷ bs)
unfolding is_decimal
decimal_tests b bs other = rw other (grind arith)

hexadecimal_tests : (b : ℕ) (bs : List ℕ) → (b == 48) ≡ false → is_hexadecimal (b ∷ bs) ≡ false
unfolding is_hexadecimal
hexadecimal_tests b [] other = refl
hexadecimal_tests b (c ∷ bs) other = rw other refl

decimal_number : (b : ℕ) (bs : List ℕ) → (b == 48) ≡ false → option_map (λ v. number v (b ∷ bs)) (value_of 10 (b ∷ bs)) ≡ number_of (b ∷ bs)
unfolding number_of value_of
decimal_number b bs other = rw (decimal_tests b bs other, hexadecimal_tests b bs other) (by_test (are_digits 10 (b ∷ bs)) (in_word (digits_value 10 (b ∷ bs))) (b ∷ bs))

pub digit_first : (bs : List ℕ) (found : Option (Option ℕ)) → 0 < length bs → (get_or bs 0 0 ≡ 48 → ⊥) → found ≡ value_of 10 bs
    → option_map (λ v. number v bs) found ≡ number_of bs
digit_first [] found some other value = absurd (omega arith)
digit_first (b ∷ bs) found some other value = rw value (decimal_number b bs (grind (arith, nat_tests)))

-- few digits, one after the other
pub record IsShort (radix : ℕ) (digits : List ℕ) (value : ℕ) : Type 0 where
  pub all : AllDigits radix digits
  pub value_is : value ≡ digits_value radix digits

power_below : (radix n : ℕ) → radix ≤ 16 → n ≤ 16 → radix ^ n ≤ 2 ^ 64
power_below radix n high few =
    let by_base = pow-le-pow_left high n in
    let by_exponent : 16 ^ n ≤ 16 ^ 16 = pow-le-pow_right (omega arith) few in
    let whole : 16 ^ 16 ≡ 2 ^ 64 = refl in
    omega (arith, by_base, by_exponent, whole)

pub short_start : (radix : ℕ) (digits : List ℕ) → IsShort radix (take 0 digits) 0
short_start radix digits = record { all = tt; value_is = refl }

pub short_more : (radix : ℕ) (digits : List ℕ) (i c digit value : ℕ) → radix ≤ 16 → length digits ≤ 16 → i < length digits → c ≡ get_or digits i 0
    → digit_value c < radix → digit ≡ digit_value c → IsShort radix (take i digits) value
    → IsShort radix (take (i + 1) digits) (value * radix + digit) × (value * radix + digit < 2 ^ 64)
short_more radix digits i c digit value high few inside same small told short =
    let here : digit_value (get_or digits i 0) < radix = rw same at small in
    let all = digits_more radix digits i inside short.all here in
    let digit_is : digit ≡ digit_value (get_or digits i 0) = told ∙ ap (λ (n : ℕ). digit_value n) same in
    let more = digits_value_more radix digits i inside in
    let sum : value * radix + digit ≡ digits_value radix (take (i + 1) digits) = rw (more, digit_is, short.value_is) refl in
    let below = digits_value-lt radix (take (i + 1) digits) all in
    let size : length (take (i + 1) digits) ≤ 16 = rw (length-take (i + 1) digits) (omega (arith, few)) in
    let limit = power_below radix (length (take (i + 1) digits)) high size in
    (record { all = all; value_is = sum }, omega (arith, sum, below, limit))

pub short_all : (radix n : ℕ) (digits : List ℕ) → 1 ≤ length digits → IsShort radix digits n → Writes radix digits (Small n)
short_all radix n digits some short = record { numeral = (some, short.all); value = short.value_is }

digit_at : (radix : ℕ) (digits : List ℕ) (i : ℕ) → AllDigits radix digits → i < length digits → digit_value (get_or digits i 0) < radix
digit_at radix [] i all inside = absurd (omega arith)
digit_at radix (c ∷ digits) zero all inside = all.0
digit_at radix (c ∷ digits) (suc i) all inside = digit_at radix digits i all.1 (omega arith)

pub no_digit : (radix : ℕ) (digits : List ℕ) (i c : ℕ) → i < length digits → c ≡ get_or digits i 0 → (digit_value c < radix → ⊥)
    → IsNumeral radix digits → ⊥
no_digit radix digits i c inside same none n = none (rw same (digit_at radix digits i n.1 inside))
