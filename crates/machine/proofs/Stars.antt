-- The place of the star in what a word says after its `h`.
use Rattle.std.proofs.Common.{◌≡◌, ℕ, ◌+◌, ◌<◌, Bool, true, false, List, [], ◌∷◌, ◌++◌, Option, Some, None, length, get_or, take, drop, refl, sym, ap, arith, subst, inl, inr, position, eqb, ne_eqb, length-append, append_assoc}
use Rattle.std.specs.List.{position_or_len}
use Rattle.std.specs.Option.{IfNone, IfSome}
use Rattle.std.specs.Str.Parse.{AllDigits, digits_value}
use Rattle.std.proofs.lemmas.Bool.{lt-ltb, le-ltb}
use Rattle.std.proofs.lemmas.Bool.Decides.{nat_tests}
use Rattle.std.proofs.lemmas.List.{take_at, drop_at, get_or_append_left, get_or_at}
use Rattle.std.proofs.lemmas.List.Sums.{position_or_len_is, passes_at_first, split_at_first}
use Rattle.std.proofs.lemmas.Str.Parse.{IsNumeralModel, numerals_by_value, tells_digits, not_in_digits}
use Rattle.text.proofs.Parting.{found}
use Rattle.machine.specs.Grammar.{IsNumber, IsStep, IsSteps, Says}
use Rattle.machine.specs.Stars.{StepsAt}
use Rattle.machine.specs.declared.schedule.items.Item.{Item}
use Rattle.machine.specs.declared.schedule.items.Item.TheVariants.{Steps, Evict}

abbrev is_star : ℕ → Bool
is_star byte = eqb byte 42

own : IsNumeralModel (AllDigits 10) (digits_value 10)
own = numerals_by_value (AllDigits 10) tells_digits

not_star : (digits : List ℕ) (number : ℕ) → IsNumber digits number → (k : ℕ) → k < length digits → is_star (get_or digits k 0) ≡ false
not_star digits number n k inside = ne_eqb _ 42 (not_in_digits own digits 42 n.numeral.1 (λ r. omega arith) k inside)

-- a number has no star
no_star : (digits : List ℕ) (number : ℕ) → IsNumber digits number → position is_star digits ≡ None
no_star digits number n =
    let whole : position_or_len is_star digits ≡ length digits =
    position_or_len_is is_star digits (length digits) 0 (omega arith) (not_star digits number n) (λ past. absurd (omega arith)) in
    rw (whole, le-ltb (length digits) (length digits) (omega arith)) refl

-- the first star stands right after the number before it
star_after : (digits rest : List ℕ) (number : ℕ) → IsNumber digits number → position is_star (digits ++ 42 ∷ rest) ≡ Some (length digits)
star_after digits rest number n =
    let text : List ℕ = digits ++ 42 ∷ rest in
    let long : length text ≡ length digits + (1 + length rest) = omega (arith, length-append digits (42 ∷ rest)) in
    let place : position_or_len is_star text ≡ length digits =
    position_or_len_is is_star text (length digits) 0 (omega arith)
    (λ k inside. rw (get_or_append_left digits (42 ∷ rest) 0 k inside) (not_star digits number n k inside))
    (λ inside. rw (get_or_at digits 42 rest 0 (length digits) refl) refl) in
    rw (place, lt-ltb (length digits) (length text) (omega arith)) refl

parted : (text : List ℕ) (place : ℕ) → position is_star text ≡ Some place → text ≡ take place text ++ 42 ∷ drop (place + 1) text
parted text place e =
    let (same, inside) = found is_star text place e in
    let passes : is_star (get_or text place 0) ≡ true = rw same (passes_at_first is_star text 0 (omega arith)) in
    let here : get_or text place 0 ≡ 42 = grind (arith, nat_tests) in
    rw (← here, same) (split_at_first is_star text 0 (omega arith))

-- what a word says by the place of its star, and the other way
said_at : (text : List ℕ) (place : Option ℕ) (item : Item) → position is_star text ≡ place → StepsAt text place item → Says (104 ∷ text) item
said_at text None (Steps hart count) e s = inl (record { hart_digits = text; spelled = refl; hart_number = s.0; one = s.1 })
said_at text None (Evict line) e s = absurd s
said_at text (Some place) (Steps hart count) e s = inr (record {
  hart_digits = take place text;
  count_digits = drop (place + 1) text;
  spelled = ap (λ rest. 104 ∷ rest) (parted text place e);
  hart_number = s.0;
  count_number = s.1;
  some = s.2;
})
said_at text (Some place) (Evict line) e s = absurd s

one_at : (text : List ℕ) (hart count : ℕ) → IsStep (104 ∷ text) hart count → StepsAt text (position is_star text) (Steps hart count)
one_at text hart count s =
    let same : text ≡ s.hart_digits = cc (s.spelled) in
    rw (same, no_star s.hart_digits hart s.hart_number) (s.hart_number, s.one)

counted_at : (text : List ℕ) (hart count : ℕ) → IsSteps (104 ∷ text) hart count → StepsAt text (position is_star text) (Steps hart count)
counted_at text hart count s =
    let same : text ≡ s.hart_digits ++ 42 ∷ s.count_digits = cc (s.spelled) in
    let after : drop (length s.hart_digits + 1) (s.hart_digits ++ 42 ∷ s.count_digits) ≡ s.count_digits =
    rw (← append_assoc s.hart_digits (42 ∷ []) s.count_digits) (drop_at (s.hart_digits ++ 42 ∷ []) s.count_digits _ (length-append s.hart_digits (42 ∷ []))) in
    rw (same, star_after s.hart_digits s.count_digits hart s.hart_number, take_at s.hart_digits (42 ∷ s.count_digits) _ refl, after)
    (s.hart_number, s.count_number, s.some)

other_letter : (text digits : List ℕ) → 104 ∷ text ≡ 101 ∷ digits → ⊥
other_letter text digits e = omega (arith, ap (λ (word : List ℕ). get_or word 0 0) e)

pub placed : (text : List ℕ) (item : Item) → Says (104 ∷ text) item → StepsAt text (position is_star text) item
placed text (Steps hart count) (inl s) = one_at text hart count s
placed text (Steps hart count) (inr s) = counted_at text hart count s
placed text (Evict line) s = absurd (other_letter text s.line_digits s.spelled)

pub some_said : (text : List ℕ) (place : Option ℕ) (found : Option Item) → place ≡ position is_star text
    → IfSome found (StepsAt text place) → IfSome found (Says (104 ∷ text))
some_said text place None e s = tt
some_said text place (Some item) e s = said_at text place item (sym e) s

pub none_said : (text : List ℕ) (place : Option ℕ) (found : Option Item) → place ≡ position is_star text
    → IfNone found ((item : Item) → ¬ (StepsAt text place item)) → IfNone found ((item : Item) → ¬ (Says (104 ∷ text) item))
none_said text place None e refuted = λ item s. let P : Option ℕ → Type 0 = λ at. StepsAt text at item in refuted item (subst P (sym e) (placed text item s))
none_said text place (Some item) e refuted = tt
