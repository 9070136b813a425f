-- What a word says, by its first colon.
use Rattle.std.proofs.Common.{◌≡◌, ◌<◌, ◌^◌, ℕ, List, ◌∷◌, ◌++◌, Bor, IfNone, Option, Some, None, MatchOption, length, get_or, sym, subst, lit<, arith}
use Rattle.std.specs.Prelude.{◌≢◌}
use Rattle.std.specs.Str.Parse.{AllDigits, IsNumeral, digits_value}
use Rattle.std.specs.Str.Pattern.{FindsChar, FindsCharPrefix}
use Rattle.std.proofs.lemmas.Str.Parse.{IsNumeralModel, numerals_by_value, tells_digits, not_in_digits}
use Rattle.std.proofs.lemmas.Str.Pattern.{IsSplitOnceResult, split_after, strip_prefix_char}
use Rattle.text.specs.Grammar.{IsEntry, IsNumber}

-- what `decimal` asks of a text
abbrev pub IsRead : List ℕ → Type 0
IsRead digits = IsNumeral 10 digits × (digits_value 10 digits < 2 ^ 32)

pub own : IsNumeralModel (AllDigits 10) (digits_value 10)
own = numerals_by_value (AllDigits 10) tells_digits

pub if_none : {X : Type 0} (r : Option X) (P : Type 0) → P → IfNone r P
if_none None P p = p
if_none (Some x) P p = tt

pub is_read : (digits : List ℕ) (number : ℕ) → IsNumber digits number → IsRead digits
is_read digits number n =
    let Small : ℕ → Type 0 = λ m. m < 2 ^ 32 in (n.numeral, subst Small n.value n.small)

pub no_colon : (digits : List ℕ) (number : ℕ) → IsNumber digits number → (i : ℕ) → i < length digits → get_or digits i 0 ≢ 58
no_colon digits number n = not_in_digits own digits 58 n.numeral.1 (λ r. omega arith)

-- no entry begins with another letter
pub other_letter : (word : List ℕ) → FindsCharPrefix 108 word None → (entry : ℕ × ℕ) → ¬ (IsEntry word entry)
other_letter word none entry says =
    strip_prefix_char 108 word None none (lit< tt) (says.line_digits ++ 58 ∷ says.number_digits) says.spelled

-- an entry's digits stand before and after the first colon
parts_are : (word rest : List ℕ) (parts : Option (Bor (List ℕ) × Bor (List ℕ))) (entry : ℕ × ℕ) → word ≡ 108 ∷ rest
    → IsSplitOnceResult 58 rest parts → (says : IsEntry word entry)
    → MatchOption parts ⊥ (λ p. (p.0.now ≡ says.line_digits) × (p.1.now ≡ says.number_digits))
parts_are word rest parts entry begins split says =
    let rest_is : rest ≡ says.line_digits ++ 58 ∷ says.number_digits = cc (begins, says.spelled) in
    split_after 58 rest says.line_digits says.number_digits parts split (lit< tt) rest_is (no_colon says.line_digits entry.0 says.line)

pub without_colon : (word rest : List ℕ) → word ≡ 108 ∷ rest → FindsChar 58 rest None → (entry : ℕ × ℕ) → ¬ (IsEntry word entry)
without_colon word rest begins none entry says = parts_are word rest None entry begins none says

pub no_line : (word rest : List ℕ) (line number : Bor (List ℕ)) → word ≡ 108 ∷ rest → IsSplitOnceResult 58 rest (Some (line, number))
    → ¬ (IsNumeral 10 line.now × (digits_value 10 line.now < 2 ^ 32)) → (entry : ℕ × ℕ) → ¬ (IsEntry word entry)
no_line word rest line number begins split none entry says =
    let (line_is, number_is) = parts_are word rest (Some (line, number)) entry begins split says in
    none (subst IsRead (sym line_is) (is_read says.line_digits entry.0 says.line))

pub no_number : (word rest : List ℕ) (line number : Bor (List ℕ)) → word ≡ 108 ∷ rest → IsSplitOnceResult 58 rest (Some (line, number))
    → ¬ (IsNumeral 10 number.now × (digits_value 10 number.now < 2 ^ 32)) → (entry : ℕ × ℕ) → ¬ (IsEntry word entry)
no_number word rest line number begins split none entry says =
    let (line_is, number_is) = parts_are word rest (Some (line, number)) entry begins split says in
    none (subst IsRead (sym number_is) (is_read says.number_digits entry.1 says.number))

-- what `decimal` gives is the number
pub number_is : (text bytes : List ℕ) (number : ℕ) → bytes ≡ text
    → (IsNumeral 10 bytes × (digits_value 10 bytes < 2 ^ 32)) × (number ≡ digits_value 10 bytes) → IsNumber text number
number_is text bytes number same read =
    let P : List ℕ → Type 0 = λ t. IsNumber t number in
    let Small : ℕ → Type 0 = λ n. n < 2 ^ 32 in
    subst P same (record { numeral = read.0.0; value = read.1; small = subst Small (sym read.1) read.0.1 })
