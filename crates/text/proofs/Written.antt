-- What is written of a name is read as that name.
use Rattle.std.proofs.Common.{◌≡◌, ◌<◌, ◌≤◌, ◌+◌, ◌^◌, ℕ, false, List, [], ◌∷◌, ◌++◌, decimal, eqb, length, get_or, map, take, refl, sym, ap, ◌∙◌, append_assoc, arith, inl, inr}
use Rattle.std.specs.List.{All, AllByRecursion, AllZip}
use Rattle.std.proofs.lemmas.Bool.Decides.{nat_tests}
use Rattle.std.proofs.lemmas.Fmt.{decimal_is_IsNumeral}
use Rattle.std.proofs.lemmas.List.{take_more}
use Rattle.std.proofs.lemmas.List.Elements.{All-append, All-cons, All-from_get_or, recursion_from_All}
use Rattle.std.proofs.lemmas.List.Splits.{slice_split_at, slice_split_none}
use Rattle.std.proofs.lemmas.Str.Parse.{digit_at}
use Rattle.text.specs.Grammar.{IsEntry, IsImageName, IsNumber, words}
use Rattle.text.specs.Texts.{IsProper, IsSmall, cut_text, entry_text, image_text}
use Rattle.text.specs.declared.image_name.name.ImageName.{ImageName}
use Rattle.text.specs.declared.image_name.name.ImageName.TheVariants.{Number, Cut}

abbrev IsNoComma : ℕ → Type 0
IsNoComma byte = eqb byte 44 ≡ false

abbrev NoComma : List ℕ → Type 0
NoComma text = All IsNoComma text

number_written : (number : ℕ) → number < 2 ^ 32 → IsNumber (decimal number) number
number_written number small =
    let (numeral, value) = decimal_is_IsNumeral number (omega arith) in
    record { numeral = numeral; value = sym value; small = small }

digit_no_comma : (byte : ℕ) → 48 ≤ byte → IsNoComma byte
digit_no_comma byte low = grind (arith, nat_tests)

decimal_no_comma : (number : ℕ) → number < 2 ^ 32 → NoComma (decimal number)
decimal_no_comma number small =
    let (numeral, value) = decimal_is_IsNumeral number (omega arith) in
    All-from_get_or IsNoComma (decimal number) 0
    (λ i inside. digit_no_comma (get_or (decimal number) i 0) (omega (arith, digit_at (decimal number) i numeral.1 inside)))

entry_no_comma : (entry : ℕ × ℕ) → IsSmall entry → NoComma (entry_text entry)
entry_no_comma entry small =
    All-cons IsNoComma 108 (decimal entry.0 ++ (58 ∷ decimal entry.1)) refl
    (All-append IsNoComma (decimal entry.0) (58 ∷ decimal entry.1) (decimal_no_comma entry.0 small.0)
    (All-cons IsNoComma 58 (decimal entry.1) refl (decimal_no_comma entry.1 small.1)))

says_written : (entry : ℕ × ℕ) → IsSmall entry → IsEntry (entry_text entry) entry
says_written entry small = record {
  line_digits = decimal entry.0;
  number_digits = decimal entry.1;
  spelled = refl;
  line = number_written entry.0 small.0;
  number = number_written entry.1 small.1;
}

words_written : (first : ℕ × ℕ) (rest : List (ℕ × ℕ)) → AllByRecursion IsSmall (first ∷ rest)
    → words (cut_text (first ∷ rest)) ≡ map entry_text (first ∷ rest)
words_written first [] small = slice_split_none (λ byte. eqb byte 44) (entry_text first) (entry_no_comma first small.0)
words_written first (next ∷ rest) small =
    slice_split_at (λ byte. eqb byte 44) (entry_text first) 44 (cut_text (next ∷ rest)) (entry_no_comma first small.0) refl
    ∙ ap (λ more. entry_text first ∷ more) (words_written next rest small.1)

says_all : (entries : List (ℕ × ℕ)) → AllByRecursion IsSmall entries → AllZip IsEntry (map entry_text entries) entries
says_all [] small = tt
says_all (entry ∷ entries) small = (says_written entry small.0, says_all entries small.1)

pub read_again : (name : ImageName) → IsProper name → IsImageName (image_text name) name
read_again (Number number) small = number_written number small
read_again (Cut []) proper = inl (refl, refl)
read_again (Cut (first ∷ rest)) proper =
    let small : AllByRecursion IsSmall (first ∷ rest) = recursion_from_All IsSmall (first ∷ rest) proper.1 in
    inr (record { says = rw (words_written first rest small) (says_all (first ∷ rest) small); upward = proper.0 })

text_more : (first : ℕ × ℕ) (front : List (ℕ × ℕ)) (entry : ℕ × ℕ)
    → cut_text ((first ∷ front) ++ entry ∷ []) ≡ cut_text (first ∷ front) ++ (44 ∷ entry_text entry)
text_more first [] entry = refl
text_more first (next ∷ front) entry =
    ap (λ rest. entry_text first ++ (44 ∷ rest)) (text_more next front entry)
    ∙ sym (append_assoc (entry_text first) (44 ∷ cut_text (next ∷ front)) (44 ∷ entry_text entry))

-- one entry more of the text
pub one_more_written : (first : ℕ × ℕ) (rest : List (ℕ × ℕ)) (at : ℕ) (d : ℕ × ℕ) → at < length rest
    → cut_text (first ∷ take at rest) ++ (44 ∷ entry_text (get_or rest at d)) ≡ cut_text (first ∷ take (at + 1) rest)
one_more_written first rest at d inside =
    sym (text_more first (take at rest) (get_or rest at d)) ∙ ap (λ front. cut_text (first ∷ front)) (sym (take_more rest at d inside))
