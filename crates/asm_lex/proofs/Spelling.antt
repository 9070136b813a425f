-- What a text that was put together from tokens is cut into, for laws of the form "what is printed reads back".
use Rattle.std.proofs.Common.{◌≡◌, ℕ, zero, suc, ◌^◌, ◌<◌, true, false, not, ◌||◌, List, [], ◌∷◌, ◌++◌, length, get_or, refl, ap, arith}
use Rattle.std.specs.Prelude.{Some, nat_lt, ◌==◌}
use Rattle.std.specs.List.{list_all}
use Rattle.std.specs.Char.{digit_value}
use Rattle.std.specs.Fmt.{decimal}
use Rattle.std.specs.Str.Parse.{AllDigits, digits_value}
use Rattle.std.proofs.lemmas.Bool.Decides.{nat_tests}
use Rattle.std.proofs.lemmas.Fmt.{decimal_is_IsNumeral, decimal_digit, first_decimal}
use Rattle.asm_lex.specs.Pieces.{is_word, begins_word, pieces}
use Rattle.asm_lex.specs.Kinds.{is_decimal, in_word, number_of, number, kind_of}
use Rattle.asm_lex.proofs.Cuts.{run_alone, word_here}
use Rattle.asm_lex.proofs.Digits.{both_left, both_right, digits_are}

-- a run, and what follows it and begins no run: one piece, and the pieces of the rest
pub pieces-run : (b : ℕ) (bs rest : List ℕ) → list_all is_word (b ∷ bs) ≡ true → begins_word rest ≡ false → pieces (b ∷ bs ++ rest) ≡ (b ∷ bs) ∷ pieces rest
pieces-run b [] rest h k = run_alone b rest (both_left _ _ h) k
pieces-run b (c ∷ bs) rest h k =
    let more = both_right (is_word b) (list_all is_word (c ∷ bs)) h in
    rw (word_here b (c ∷ bs ++ rest) (both_left _ _ h), both_left (is_word c) (list_all is_word bs) more, pieces-run c bs rest more k) refl

-- the decimal digits of a number are a run, and the token of that number
digit_is_word : (d : ℕ) → digit_value d < 10 → is_word d ≡ true
unfolding is_word
digit_is_word d h = grind (arith, nat_tests)

digits_are_word : (ds : List ℕ) → AllDigits 10 ds → list_all is_word ds ≡ true
digits_are_word [] h = refl
digits_are_word (d ∷ ds) h = rw (digit_is_word d h.0) (digits_are_word ds h.1)

kind_of-digits : (ds : List ℕ) (n : ℕ) → AllDigits 10 ds → 0 < length ds → (get_or ds 0 0 ≡ 48 → length ds ≡ 1) → digits_value 10 ds ≡ n → n < 2 ^ 64 → kind_of ds ≡ Some (number (Some n) ds)
unfolding kind_of number_of is_decimal in_word
kind_of-digits [] n all some lone value fits = absurd (omega arith)
kind_of-digits (d ∷ ds) n all some lone value fits =
    let first : nat_lt (digit_value d) 10 ≡ true = grind (arith, nat_tests, all.0) in
    let whole : (not (d == 48) || length ds == 0) ≡ true = grind (arith, nat_tests) in
    let small : nat_lt n (2 ^ 64) ≡ true = grind (arith, nat_tests) in
    rw (first, digits_are 10 (d ∷ ds) all, whole, value, small) refl

pub is_word-decimal : (n : ℕ) → n < 2 ^ 64 → list_all is_word (decimal n) ≡ true
is_word-decimal n fits = digits_are_word (decimal n) (decimal_is_IsNumeral n fits).0.1

zero_lone : (n : ℕ) → n < 2 ^ 64 → get_or (decimal n) 0 0 ≡ 48 → length (decimal n) ≡ 1
zero_lone zero fits h = ap length (decimal_digit 0 (omega arith))
zero_lone (suc n) fits h = absurd (omega (arith, first_decimal (suc n) (omega arith) fits))

pub kind_of-decimal : (n : ℕ) → n < 2 ^ 64 → kind_of (decimal n) ≡ Some (number (Some n) (decimal n))
kind_of-decimal n fits =
    let numeral = decimal_is_IsNumeral n fits in
    kind_of-digits (decimal n) n numeral.0.1 numeral.0.0 (zero_lone n fits) numeral.1 fits
