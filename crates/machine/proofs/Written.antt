-- What is written is read again.
use Rattle.std.proofs.Common.{◌≡◌, ℕ, ◌<◌, ◌≤◌, ◌^◌, false, true, List, [], ◌∷◌, ◌++◌, decimal, length, get_or, map, refl, sym, ap, arith, inr}
use Rattle.std.specs.List.{All, AllByRecursion, AllZip}
use Rattle.std.proofs.lemmas.Bool.{lt-ltb}
use Rattle.std.proofs.lemmas.Bool.Decides.{nat_tests}
use Rattle.std.proofs.lemmas.Fmt.{decimal_is_IsNumeral}
use Rattle.std.proofs.lemmas.List.Elements.{All-append, All-cons, All-from_get_or}
use Rattle.std.proofs.lemmas.List.Splits.{slice_split_at, slice_split_none}
use Rattle.std.proofs.lemmas.Str.Parse.{digit_at}
use Rattle.machine.proofs.JoinedLemmas.{hart_steps-joined}
use Rattle.machine.specs.Grammar.{IsNumber, IsSchedule, Says, hart_steps}
use Rattle.text.specs.Words.{is_blank, words_of_lines as words}
use Rattle.machine.specs.Joined.{item_text, joined, text_of}
use Rattle.machine.specs.Runs.{IsWritable, Writes}
use Rattle.machine.specs.declared.schedule.items.Item.{Item}
use Rattle.machine.specs.declared.schedule.items.Item.TheVariants.{Steps, Evict}

abbrev IsNoBlank : ℕ → Type 0
IsNoBlank byte = is_blank byte ≡ false

abbrev NoBlank : List ℕ → Type 0
NoBlank text = All IsNoBlank text

number_written : (number : ℕ) → number < 2 ^ 32 → IsNumber (decimal number) number
number_written number small =
    let (numeral, value) = decimal_is_IsNumeral number (omega arith) in
    record { numeral = numeral; value = sym value; small = small }

says_written : (item : Item) → IsWritable item → Says (item_text item) item
says_written (Steps hart count) w = inr (record {
  hart_digits = decimal hart;
  count_digits = decimal count;
  spelled = refl;
  hart_number = number_written hart w.0;
  count_number = number_written count w.1;
  some = w.2;
})
says_written (Evict line) w = record { line_digits = decimal line; spelled = refl; line_number = number_written line w }

digit_no_blank : (byte : ℕ) → 48 ≤ byte → is_blank byte ≡ false
unfolding is_blank
digit_no_blank byte low = grind (arith, nat_tests)

letter_no_blank : (is_blank 104 ≡ false) × (is_blank 101 ≡ false) × (is_blank 42 ≡ false) × (is_blank 32 ≡ true)
unfolding is_blank
letter_no_blank = (refl, refl, refl, refl)

decimal_no_blank : (number : ℕ) → number < 2 ^ 32 → NoBlank (decimal number)
decimal_no_blank number small =
    let (numeral, value) = decimal_is_IsNumeral number (omega arith) in
    All-from_get_or IsNoBlank (decimal number) 0
    (λ i inside. digit_no_blank (get_or (decimal number) i 0) (omega (arith, digit_at (decimal number) i numeral.1 inside)))

item_no_blank : (item : Item) → IsWritable item → NoBlank (item_text item)
item_no_blank (Steps hart count) w =
    All-cons IsNoBlank 104 (decimal hart ++ (42 ∷ decimal count)) letter_no_blank.0
    (All-append IsNoBlank (decimal hart) (42 ∷ decimal count) (decimal_no_blank hart w.0)
    (All-cons IsNoBlank 42 (decimal count) letter_no_blank.2 (decimal_no_blank count w.1)))
item_no_blank (Evict line) w = All-cons IsNoBlank 101 (decimal line) letter_no_blank.1 (decimal_no_blank line w)

some_text : (item : Item) → 0 < length (item_text item)
some_text (Steps hart count) = omega arith
some_text (Evict line) = omega arith

words_written : (items : List Item) → AllByRecursion IsWritable items → words (text_of items) ≡ map item_text items
words_written [] all = refl
words_written (item ∷ []) all =
    rw (slice_split_none is_blank (item_text item) (item_no_blank item all.0), lt-ltb 0 (length (item_text item)) (some_text item)) refl
words_written (item ∷ next ∷ rest) all =
    rw (slice_split_at is_blank (item_text item) 32 (text_of (next ∷ rest)) (item_no_blank item all.0) letter_no_blank.3, lt-ltb 0 (length (item_text item)) (some_text item))
    (ap (λ more. item_text item ∷ more) (words_written (next ∷ rest) all.1))

says_all : (items : List Item) → AllByRecursion IsWritable items → AllZip Says (map item_text items) items
says_all [] all = tt
says_all (item ∷ items) all = (says_written item all.0, says_all items all.1)

pub read_again : (items : List Item) (text : List ℕ) → Writes text (joined items) → hart_steps items < 2 ^ 32 → IsSchedule text (joined items)
read_again items text writes within = record {
  says = rw (writes.written, words_written (joined items) writes.writable) (says_all (joined items) writes.writable);
  within = rw (hart_steps-joined items) within;
}
