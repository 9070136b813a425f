-- What a text says of moments, by its first dash.
use Rattle.std.proofs.Common.{◌≡◌, ◌<◌, ◌^◌, ℕ, ◌∷◌, ◌++◌, Bor, IfNone, Option, Some, None, inl, inr, length, get_or, ◌∙◌, sym, subst, lit<, arith}
use Rattle.std.specs.Prelude.{◌≢◌}
use Rattle.std.specs.Str.Parse.{AllDigits, IsNumeral, digits_value}
use Rattle.std.proofs.lemmas.Grind.{common_steps}
use Rattle.std.proofs.lemmas.Str.Parse.{IsNumeralModel, numerals_by_value, tells_digits, not_in_digits}
use Rattle.std.proofs.lemmas.Str.Pattern.{IsSplitOnceResult, split_after, split_parts}
use Rattle.clap.specs.Words.{Text}
use Rattle.arguments.specs.Spans.{IsEnd, IsMoment, IsMoments, IsOne, IsOptionalMoments, IsSpan}
use Rattle.arguments.specs.declared.asked.Moments.{Moments}

-- what `decimal` asks of a text
abbrev pub IsRead : Text → Type 0
IsRead digits = IsNumeral 10 digits × (digits_value 10 digits < 2 ^ 32)

own : IsNumeralModel (AllDigits 10) (digits_value 10)
own = numerals_by_value (AllDigits 10) tells_digits

is_read : (digits : Text) (number : ℕ) → IsMoment digits number → IsRead digits
is_read digits number n = (n.0, omega (arith, n.1, n.3))

no_dash : (digits : Text) (number : ℕ) → IsMoment digits number → (i : ℕ) → i < length digits → get_or digits i 0 ≢ 45
no_dash digits number n = not_in_digits own digits 45 n.0.1 (λ r. omega arith)

no_span : (text : Text) → IsSplitOnceResult 45 text None → (m : Moments) → ¬ IsSpan text m
no_span text none m says =
    split_after 45 text says.first_digits says.end_text None none (lit< tt) says.spelled (no_dash says.first_digits m.first says.first)

no_one : (text : Text) (first end : Bor Text) → IsSplitOnceResult 45 text (Some (first, end)) → (m : Moments) → ¬ IsOne text m
no_one text first end split m one =
    let whole : text ≡ first.now ++ (45 ∷ end.now) = (split_parts 45 text (Some (first, end)) split (lit< tt)).0 in
    let inside : length first.now < length text = grind (arith, common_steps, whole) in
    let dash : get_or text (length first.now) 0 ≡ 45 = grind (arith, common_steps, whole) in
    no_dash text m.first one.first (length first.now) inside dash

-- no dash, and no number
pub no_moments : (text : Text) → IsSplitOnceResult 45 text None → ¬ IsRead text → (m : Moments) → ¬ IsMoments text m
no_moments text none other m (inl one) = other (is_read text m.first one.first)
no_moments text none other m (inr says) = no_span text none m says

-- a dash behind what is no number
pub no_first : (text : Text) (first end : Bor Text) → IsSplitOnceResult 45 text (Some (first, end)) → ¬ IsRead first.now → (m : Moments) → ¬ IsMoments text m
no_first text first end split other m (inl one) = no_one text first end split m one
no_first text first end split other m (inr says) =
    let parts = split_after 45 text says.first_digits says.end_text (Some (first, end)) split (lit< tt) says.spelled (no_dash says.first_digits m.first says.first) in
    other (subst IsRead (sym parts.0) (is_read says.first_digits m.first says.first))

-- a dash before what is no end
pub no_end : (text : Text) (first end : Bor Text) (number : ℕ) → IsSplitOnceResult 45 text (Some (first, end)) → number ≡ digits_value 10 first.now →
    ((m : Moments) → m.first ≡ number → ¬ IsEnd end.now m) → (m : Moments) → ¬ IsMoments text m
no_end text first end number split is other m (inl one) = no_one text first end split m one
no_end text first end number split is other m (inr says) =
    let parts = split_after 45 text says.first_digits says.end_text (Some (first, end)) split (lit< tt) says.spelled (no_dash says.first_digits m.first says.first) in
    let value : m.first ≡ digits_value 10 first.now = subst (λ (t : Text). m.first ≡ digits_value 10 t) (sym parts.0) says.first.1 in
    other m (value ∙ sym is) (subst (λ (t : Text). IsEnd t m) (sym parts.1) says.end)

-- a number, a dash and an end
pub is_span : (text : Text) (first end : Bor Text) (number : ℕ) (m : Moments) → IsSplitOnceResult 45 text (Some (first, end)) →
    IsRead first.now × (number ≡ digits_value 10 first.now) → m.first ≡ number → IsEnd end.now m → IsMoments text m
is_span text first end number m split read same ends = inr (record {
  first_digits = first.now;
  end_text = end.now;
  spelled = (split_parts 45 text (Some (first, end)) split (lit< tt)).0;
  first = (read.0.0, same ∙ read.1, omega arith, omega (arith, same, read.1, read.0.1));
  end = ends;
})

-- what holds where there is none
pub if_none : {X : Type 0} (r : Option X) (P : Type 0) → P → IfNone r P
if_none None P p = p
if_none (Some x) P p = tt

pub none_too : {X : Type 0} (r : Option X) (P Q : Type 0) → IfNone r P → (P → Q) → IfNone r Q
none_too None P Q p more = more p
none_too (Some x) P Q p more = tt

pub not_given : (found : Option Text) (text : Text) (moments : Option Moments) → found ≡ Some text → ((m : Moments) → ¬ IsMoments text m) →
    ¬ IsOptionalMoments found moments
not_given found text moments e none is =
    let given : IsOptionalMoments (Some text) moments = subst (λ (o : Option Text). IsOptionalMoments o moments) e is in
    none given.0 given.2
