-- The digits that write a number, and the number that digits write.
use Rattle.std.proofs.Common.{◌≡◌, ℕ, zero, suc, ◌+◌, ◌*◌, ◌/◌, ◌%◌, ◌<◌, ◌≤◌, true, false, not, List, [], ◌∷◌, ◌++◌, map, get_or, refl, sym, ap, ◌∙◌, subst, arith, eqb, inl, inr, append_assoc, append-nil}
use Rattle.std.specs.Prelude.{◌≢◌}
use Rattle.std.specs.List.{list_all, list_any}
use Rattle.std.specs.Char.{digit_value}
use Rattle.std.specs.Fmt.{digit_glyph}
use Rattle.std.specs.Int.Digits.{AllBelowBase, digits_of, number_from_digits, number_from_digits_after}
use Rattle.std.specs.Str.Parse.{AllDigits, IsNumeral, digits_value}
use Rattle.std.proofs.Math.Nat.{div-eq_of_lt, mod-eq_of_lt, mul-add-div_right, mul-add-mod_self_right, mul-le-mul_left}
use Rattle.std.proofs.lemmas.Bool.{and_from, both_ways, cases_lt, eq-eqb, ne_eqb, or_from, or_parts}
use Rattle.std.proofs.lemmas.Bool.Decides.{nat_tests}
use Rattle.std.proofs.lemmas.Int.Digits.{all_below_base_digits_of, all_below_base_from_digits, digits_of_step, digits_value_is, first_digits_of, number_after_ge, number_digits_of}
use Rattle.text.specs.Numbers.{Writes}
use Rattle.text.specs.declared.numbers.Number.{Number}
use Rattle.trace_file.proofs.CutLemmas.{is_other, one_cut}
use Rattle.trace_file.specs.Numerals.{IsNumberBefore, IsNumberOf, has_needless_zero, is_capital, numeral}
use Rattle.trace_file.specs.Cuts.{IsCutAt}

-- one digit more
digits_of_more : (b n d : ℕ) → 2 ≤ b → d < b → 0 < n * b + d → digits_of b (n * b + d) ≡ digits_of b n ++ d ∷ []
digits_of_more b n d two small some =
    let plus : 0 < b = omega arith in
    let front : (n * b + d) / b ≡ n = mul-add-div_right plus n d ∙ ap (λ (x : ℕ). n + x) (div-eq_of_lt small) ∙ omega arith in
    let last : (n * b + d) % b ≡ d = mul-add-mod_self_right n b d ∙ mod-eq_of_lt small in
    digits_of_step b (n * b + d) two some ∙ ap (λ (x : ℕ). digits_of b x ++ (n * b + d) % b ∷ []) front ∙ ap (λ (x : ℕ). digits_of b n ++ x ∷ []) last

digits_after : (b n : ℕ) (ds : List ℕ) → 2 ≤ b → 0 < n → AllBelowBase b ds → digits_of b (number_from_digits_after b n ds) ≡ digits_of b n ++ ds
digits_after b n [] two some all = sym (append-nil (digits_of b n))
digits_after b n (d ∷ ds) two some all =
    let most : 1 ≤ b = omega arith in
    let grown_by = mul-le-mul_left n most in
    let grown : 0 < n * b + d = omega (arith, grown_by) in
    digits_after b (n * b + d) ds two grown all.1
    ∙ ap (λ (front : List ℕ). front ++ ds) (digits_of_more b n d two all.0 grown)
    ∙ append_assoc (digits_of b n) (d ∷ []) ds

-- the digits of the number that digits write are these, where none is needless
digits_back : (b d : ℕ) (ds : List ℕ) → 2 ≤ b → 0 < d → d < b → AllBelowBase b ds → digits_of b (number_from_digits b (d ∷ ds)) ≡ d ∷ ds
digits_back b d ds two some small all =
    let first : digits_of b (0 * b + d) ≡ d ∷ [] = digits_of_more b 0 d two small (omega arith) in
    digits_after b (0 * b + d) ds two (omega arith) all ∙ ap (λ (front : List ℕ). front ++ ds) first

-- glyphs of digits
glyph_value : (d : ℕ) → d < 16 → digit_value (digit_glyph false d) ≡ d
glyph_value d small = grind (arith, nat_tests)

value_glyph : (c : ℕ) → digit_value c < 16 → is_capital c ≡ false → digit_glyph false (digit_value c) ≡ c
value_glyph c small low = grind (arith, nat_tests)

glyph_low : (d : ℕ) → d < 16 → is_capital (digit_glyph false d) ≡ false
glyph_low d small = grind (arith, nat_tests)

glyph_some : (d : ℕ) → 0 < d → d < 16 → eqb (digit_glyph false d) 48 ≡ false
glyph_some d some small = grind (arith, nat_tests)

glyph_high : (d : ℕ) → d < 16 → 48 ≤ digit_glyph false d
glyph_high d small = grind (arith, nat_tests)

-- what holds of the glyphs of a list of digits
glyphs_digits : (b : ℕ) (ds : List ℕ) → b ≤ 16 → AllBelowBase b ds → AllDigits b (map (digit_glyph false) ds)
glyphs_digits b [] few all = tt
glyphs_digits b (d ∷ ds) few all = (rw (glyph_value d (omega (arith, all.0))) all.0, glyphs_digits b ds few all.1)

glyphs_values : (b : ℕ) (ds : List ℕ) → b ≤ 16 → AllBelowBase b ds → map digit_value (map (digit_glyph false) ds) ≡ ds
glyphs_values b [] few all = refl
glyphs_values b (d ∷ ds) few all =
    let first = glyph_value d (omega (arith, all.0)) in let rest = glyphs_values b ds few all.1 in cc

glyphs_low : (b : ℕ) (ds : List ℕ) → b ≤ 16 → AllBelowBase b ds → list_any is_capital (map (digit_glyph false) ds) ≡ false
glyphs_low b [] few all = refl
glyphs_low b (d ∷ ds) few all = or_from _ _ (glyph_low d (omega (arith, all.0))) (glyphs_low b ds few all.1)

glyphs_stop : (b stop : ℕ) (ds : List ℕ) → b ≤ 16 → stop < 48 → AllBelowBase b ds → list_all (is_other stop) (map (digit_glyph false) ds) ≡ true
glyphs_stop b stop [] few low all = refl
glyphs_stop b stop (d ∷ ds) few low all =
    let high = glyph_high d (omega (arith, all.0)) in
    let other : eqb (digit_glyph false d) stop ≡ false = ne_eqb _ stop (λ same. omega arith) in
    and_from _ _ (ap not other) (glyphs_stop b stop ds few low all.1)

glyphs_no_zero : (d : ℕ) (ds : List ℕ) → 0 < d → d < 16 → has_needless_zero (map (digit_glyph false) (d ∷ ds)) ≡ false
glyphs_no_zero d [] some small = refl
glyphs_no_zero d (e ∷ ds) some small = glyph_some d some small

values_back : (b : ℕ) (cs : List ℕ) → b ≤ 16 → AllDigits b cs → list_any is_capital cs ≡ false → map (digit_glyph false) (map digit_value cs) ≡ cs
values_back b [] few all low = refl
values_back b (c ∷ cs) few all low =
    let (here, others) = or_parts _ _ low in
    let first = value_glyph c (omega (arith, all.0)) here in let rest = values_back b cs few all.1 others in cc

-- a numeral by its number
pub numeral_zero : (radix : ℕ) → numeral radix 0 ≡ 48 ∷ []
unfolding numeral
numeral_zero radix = refl

pub numeral_some : (radix n : ℕ) → 0 < n → numeral radix n ≡ map (digit_glyph false) (digits_of radix n)
unfolding numeral
numeral_some radix n some = rw (ne_eqb n 0 (λ none. omega arith)) refl

-- what holds of a numeral
pub record IsPlain (radix n : ℕ) (word : List ℕ) : Type 0 where
  pub digits : IsNumeral radix word
  pub value : digits_value radix word ≡ n
  pub needed : has_needless_zero word ≡ false
  pub low : list_any is_capital word ≡ false

digits_plain : (radix n d : ℕ) (ds : List ℕ) → 2 ≤ radix → radix ≤ 16 → digits_of radix n ≡ d ∷ ds → 0 < d → IsPlain radix n (map (digit_glyph false) (d ∷ ds))
digits_plain radix n d ds two few is some =
    let all : AllBelowBase radix (d ∷ ds) = subst (AllBelowBase radix) is (all_below_base_digits_of radix n two) in
    let value : digits_value radix (map (digit_glyph false) (d ∷ ds)) ≡ n =
    digits_value_is radix (map (digit_glyph false) (d ∷ ds)) ∙ ap (number_from_digits radix) (glyphs_values radix (d ∷ ds) few all)
    ∙ ap (number_from_digits radix) (sym is) ∙ number_digits_of radix n two in
    record {
      digits = (omega arith, glyphs_digits radix (d ∷ ds) few all);
      value = value;
      needed = glyphs_no_zero d ds some (omega (arith, all.0));
      low = glyphs_low radix (d ∷ ds) few all;
    }

plain_at : (radix n : ℕ) (ds : List ℕ) → 2 ≤ radix → radix ≤ 16 → digits_of radix n ≡ ds → 0 < get_or ds 0 0 → IsPlain radix n (map (digit_glyph false) ds)
plain_at radix n [] two few is some = absurd (omega arith)
plain_at radix n (d ∷ ds) two few is some = digits_plain radix n d ds two few is some

pub numeral_plain : (radix n : ℕ) → 2 ≤ radix → radix ≤ 16 → IsPlain radix n (numeral radix n)
numeral_plain radix zero two few =
    rw (numeral_zero radix) (record { digits = (omega arith, (omega arith, tt)); value = omega arith; needed = refl; low = refl })
numeral_plain radix (suc m) two few =
    rw (numeral_some radix (suc m) (omega arith))
    (plain_at radix (suc m) (digits_of radix (suc m)) two few refl (first_digits_of radix (suc m) two (omega arith)))

-- a plain word is the numeral of its number
first_zero : (radix c : ℕ) (cs : List ℕ) → radix ≤ 16 → digit_value c ≡ 0 → digit_value c < radix → is_capital c ≡ false → has_needless_zero (c ∷ cs) ≡ false
    → (c ∷ cs) ≡ numeral radix (digits_value radix (c ∷ cs))
first_zero radix c [] few none small low needed =
    let is : c ≡ 48 = sym (value_glyph c (omega arith) low) ∙ ap (digit_glyph false) none in
    let value : digits_value radix (c ∷ []) ≡ 0 = omega (arith, none) in
    ap (λ (x : ℕ). x ∷ []) is ∙ sym (ap (numeral radix) value ∙ numeral_zero radix)
first_zero radix c (e ∷ cs) few none small low needed =
    let is : c ≡ 48 = sym (value_glyph c (omega arith) low) ∙ ap (digit_glyph false) none in
    absurd (both_ways (eqb c 48) needed (eq-eqb c 48 is))

first_some : (radix c : ℕ) (cs : List ℕ) → 2 ≤ radix → radix ≤ 16 → 0 < digit_value c → AllDigits radix (c ∷ cs) → list_any is_capital (c ∷ cs) ≡ false
    → (c ∷ cs) ≡ numeral radix (digits_value radix (c ∷ cs))
first_some radix c cs two few some all low =
    let all_below = all_below_base_from_digits radix (c ∷ cs) all in
    let ds : List ℕ = map digit_value cs in
    let value : digits_value radix (c ∷ cs) ≡ number_from_digits radix (digit_value c ∷ ds) = digits_value_is radix (c ∷ cs) in
    let big : 0 < number_from_digits radix (digit_value c ∷ ds) =
    omega (arith, number_after_ge radix (0 * radix + digit_value c) ds (omega arith)) in
    let back = digits_back radix (digit_value c) ds two some all.0 all_below.1 in
    sym (ap (numeral radix) value
    ∙ numeral_some radix (number_from_digits radix (digit_value c ∷ ds)) big
    ∙ ap (map (digit_glyph false)) back
    ∙ values_back radix (c ∷ cs) few all low)

pub plain_numeral : (radix : ℕ) (word : List ℕ) → 2 ≤ radix → radix ≤ 16 → IsNumeral radix word → has_needless_zero word ≡ false → list_any is_capital word ≡ false
    → word ≡ numeral radix (digits_value radix word)
plain_numeral radix [] two few digits needed low = absurd (omega arith)
plain_numeral radix (c ∷ cs) two few digits needed low = elim (cases_lt 0 (digit_value c)) [
  | inl some ↦ first_some radix c cs two few some digits.1 low
  | inr none ↦ first_zero radix c cs few (omega arith) digits.1.0 (or_parts _ _ low).0 needed
]

-- one number has one numeral
pub numeral_injective : (radix m n : ℕ) → 2 ≤ radix → radix ≤ 16 → numeral radix m ≡ numeral radix n → m ≡ n
numeral_injective radix m n two few e =
    sym (numeral_plain radix m two few).value ∙ ap (digits_value radix) e ∙ (numeral_plain radix n two few).value

-- no byte below the digits stands in a numeral
pub numeral_stop : (radix stop n : ℕ) → 2 ≤ radix → radix ≤ 16 → stop < 48 → list_all (is_other stop) (numeral radix n) ≡ true
numeral_stop radix stop zero two few low = rw (numeral_zero radix) (and_from _ _ (ap not (ne_eqb 48 stop (λ same. omega arith))) refl)
numeral_stop radix stop (suc m) two few low =
    rw (numeral_some radix (suc m) (omega arith)) (glyphs_stop radix stop (digits_of radix (suc m)) few low (all_below_base_digits_of radix (suc m) two))

-- a number and the byte behind it stand in front of a text in one way
pub one_number : (radix stop m n : ℕ) (xs ys : List ℕ) → 2 ≤ radix → radix ≤ 16 → stop < 48 → numeral radix m ++ stop ∷ xs ≡ numeral radix n ++ stop ∷ ys
    → (m ≡ n) × (xs ≡ ys)
one_number radix stop m n xs ys two few low e =
    let (same, rest) = one_cut stop (numeral radix m) (numeral radix n) xs ys (numeral_stop radix stop m two few low) (numeral_stop radix stop n two few low) e in
    (numeral_injective radix m n two few same, rest)

-- what a reader of numbers finds
pub number_found : (radix : ℕ) (digits : List ℕ) (number : Number) → 2 ≤ radix → radix ≤ 16 → has_needless_zero digits ≡ false → list_any is_capital digits ≡ false
    → Writes radix digits number → IsNumberOf radix digits number
number_found radix digits number two few needed low writes = record {
  value = digits_value radix digits;
  written = plain_numeral radix digits two few writes.numeral needed low;
  known = writes.value;
}

pub no_digits : (radix n : ℕ) (digits : List ℕ) → 2 ≤ radix → radix ≤ 16 → ¬ (IsNumeral radix digits) → digits ≢ numeral radix n
no_digits radix n digits two few none is = none (rw is (numeral_plain radix n two few).digits)

pub zero_in_front : (radix n : ℕ) (digits : List ℕ) → 2 ≤ radix → radix ≤ 16 → has_needless_zero digits ≡ true → digits ≢ numeral radix n
zero_in_front radix n digits two few begins is = both_ways (has_needless_zero digits) (rw is (numeral_plain radix n two few).needed) begins

pub capital_inside : (radix n : ℕ) (digits : List ℕ) → 2 ≤ radix → radix ≤ 16 → list_any is_capital digits ≡ true → digits ≢ numeral radix n
capital_inside radix n digits two few some is = both_ways (list_any is_capital digits) (rw is (numeral_plain radix n two few).low) some

pub number_stands : (radix stop : ℕ) (text front rest : List ℕ) (number : Number) → IsCutAt stop text front rest → IsNumberOf radix front number
    → IsNumberBefore radix stop text number rest
number_stands radix stop text front rest number cut is = record {
  value = is.value;
  whole = cut.whole ∙ ap (λ (digits : List ℕ). digits ++ stop ∷ rest) is.written;
  known = is.known;
}

-- no number stands before the byte
pub no_number : (radix stop : ℕ) (text front back : List ℕ) → 2 ≤ radix → radix ≤ 16 → stop < 48 → IsCutAt stop text front back
    → ((n : ℕ) → front ≢ numeral radix n) → (n : ℕ) (rest : List ℕ) → text ≢ numeral radix n ++ stop ∷ rest
no_number radix stop text front back two few low cut none n rest is =
    none n (one_cut stop front (numeral radix n) back rest cut.first (numeral_stop radix stop n two few low) (sym cut.whole ∙ is)).0
