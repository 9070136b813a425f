-- What is printed of an event is its line.
use Rattle.std.proofs.Common.{◌≡◌, ℕ, zero, suc, ◌/◌, ◌%◌, ◌<◌, ◌≤◌, ◌^◌, Bool, true, false, List, [], ◌∷◌, ◌++◌, map, codes, refl, sym, ap, ◌∙◌, arith, eqb, append_assoc, append-nil}
use Rattle.std.specs.Prelude.{decimal}
use Rattle.std.specs.Fmt.{digit_glyph, digits, digits_onto}
use Rattle.std.specs.Int.Digits.{digits_of}
use Rattle.std.proofs.Math.Nat.{div-lt_iff_lt-mul, pow-suc, pow-zero}
use Rattle.std.proofs.lemmas.Bool.{eqb-false, eqb-true}
use Rattle.std.proofs.lemmas.Int.Digits.{digits_of_step}
use Rattle.std.proofs.lemmas.List.{map-append}
use Rattle.store_trace.specs.declared.event.Event.{Event}
use Rattle.store_trace.specs.declared.event.Event.TheVariants.{Store, Clean, Fence, Begin, End}
use Rattle.trace_file.proofs.NumeralLemmas.{numeral_some, numeral_zero}
use Rattle.trace_file.specs.Entries.{act_text, hart_of, last_line, placed_line}
use Rattle.trace_file.specs.Numerals.{numeral}
use Rattle.trace_file.specs.Printed.{act_printed}

onto_more : (k b n : ℕ) (acc : List ℕ) (t : Bool) → 2 ≤ b → 0 < n → n < b ^ suc k → eqb (n / b) 0 ≡ t
    → ((acc : List ℕ) → 0 < n / b → n / b < b ^ k → digits_onto k b false (n / b) acc ≡ map (digit_glyph false) (digits_of b (n / b)) ++ acc)
    → digits_onto (suc k) b false n acc ≡ map (digit_glyph false) (digits_of b n) ++ acc
onto_more k b n acc true two some small test ih =
    let none : n / b ≡ 0 = eqb-true (n / b) 0 test in
    let one : digits_of b n ≡ n % b ∷ [] = digits_of_step b n two some ∙ ap (λ (q : ℕ). digits_of b q ++ n % b ∷ []) none in
    rw test (ap (λ (ds : List ℕ). map (digit_glyph false) ds ++ acc) (sym one))
onto_more k b n acc false two some small test ih =
    let more : 0 < n / b = omega (arith, eqb-false (n / b) 0 test) in
    let plus : 0 < b = omega arith in
    let low : n / b < b ^ k = (div-lt_iff_lt-mul plus).1 (omega (arith, pow-suc b k)) in
    let step : map (digit_glyph false) (digits_of b n) ≡ map (digit_glyph false) (digits_of b (n / b)) ++ digit_glyph false (n % b) ∷ [] =
    ap (map (digit_glyph false)) (digits_of_step b n two some) ∙ map-append (digit_glyph false) (digits_of b (n / b)) (n % b ∷ []) in
    rw test (ih (digit_glyph false (n % b) ∷ acc) more low
    ∙ sym (ap (λ (ds : List ℕ). ds ++ acc) step ∙ append_assoc (map (digit_glyph false) (digits_of b (n / b))) (digit_glyph false (n % b) ∷ []) acc))

onto_is : (k b n : ℕ) (acc : List ℕ) → 2 ≤ b → 0 < n → n < b ^ k → digits_onto k b false n acc ≡ map (digit_glyph false) (digits_of b n) ++ acc
onto_is zero b n acc two some small = absurd (omega (arith, pow-zero b))
onto_is (suc k) b n acc two some small = onto_more k b n acc (eqb (n / b) 0) two some small refl (λ a. onto_is k b (n / b) a two)

pub decimal_numeral : (n : ℕ) → n < 2 ^ 64 → decimal n ≡ numeral 10 n
unfolding digits
decimal_numeral zero small = sym (numeral_zero 10)
decimal_numeral (suc m) small =
    onto_is 64 10 (suc m) [] (omega arith) (omega arith) (omega arith) ∙ append-nil (map (digit_glyph false) (digits_of 10 (suc m)))
    ∙ sym (numeral_some 10 (suc m) (omega arith))

pub hexadecimal_numeral : (n : ℕ) → n < 2 ^ 64 → digits 16 false n ≡ numeral 16 n
unfolding digits
hexadecimal_numeral zero small = sym (numeral_zero 16)
hexadecimal_numeral (suc m) small =
    onto_is 64 16 (suc m) [] (omega arith) (omega arith) (omega arith) ∙ append-nil (map (digit_glyph false) (digits_of 16 (suc m)))
    ∙ sym (numeral_some 16 (suc m) (omega arith))

-- the numbers of an event, by their sizes
abbrev pub HasSizes : Event → Type 0
HasSizes (Store hart line offset width value) = (hart < 2 ^ 32) × (line < 2 ^ 32) × (offset < 2 ^ 32) × (width < 2 ^ 32) × (value < 2 ^ 64)
HasSizes (Clean hart line) = (hart < 2 ^ 32) × (line < 2 ^ 32)
HasSizes (Fence hart) = hart < 2 ^ 32
HasSizes (Begin hart op) = (hart < 2 ^ 32) × (op < 2 ^ 64)
HasSizes (End hart op) = (hart < 2 ^ 32) × (op < 2 ^ 64)

numbered_printed : (keyword : List ℕ) (n : ℕ) (rest : List ℕ) → n < 2 ^ 64 → (keyword ++ (decimal n ++ 10 ∷ [])) ++ rest ≡ keyword ++ (numeral 10 n ++ 10 ∷ rest)
numbered_printed keyword n rest small =
    append_assoc keyword (decimal n ++ 10 ∷ []) rest
    ∙ ap (λ (t : List ℕ). keyword ++ t) (append_assoc (decimal n) (10 ∷ []) rest ∙ ap (λ (t : List ℕ). t ++ 10 ∷ rest) (decimal_numeral n small))

number_onto : (word : List ℕ) (more rest after : List ℕ) → more ++ rest ≡ after → (word ++ more) ++ rest ≡ word ++ after
number_onto word more rest after e = append_assoc word more rest ∙ ap (λ (t : List ℕ). word ++ t) e

store_printed : (l o w v : ℕ) (rest : List ℕ) → l < 2 ^ 32 → o < 2 ^ 32 → w < 2 ^ 32 → v < 2 ^ 64
    → (codes "store l" ++ (decimal l ++ (codes "+" ++ (decimal o ++ (codes " w" ++ (decimal w ++ (codes " 0x" ++ (digits 16 false v ++ codes "\n")))))))) ++ rest
    ≡ codes "store l" ++ (numeral 10 l ++ (codes "+" ++ (numeral 10 o ++ (codes " w" ++ (numeral 10 w ++ (codes " 0x" ++ (numeral 16 v ++ 10 ∷ rest)))))))
store_printed l o w v rest l_small o_small w_small v_small =
    rw (decimal_numeral l (omega arith), decimal_numeral o (omega arith), decimal_numeral w (omega arith), hexadecimal_numeral v v_small)
    (number_onto (codes "store l") _ rest _ (number_onto (numeral 10 l) _ rest _ (number_onto (codes "+") _ rest _ (number_onto (numeral 10 o) _ rest _
    (number_onto (codes " w") _ rest _ (number_onto (numeral 10 w) _ rest _ (number_onto (codes " 0x") _ rest _ (append_assoc (numeral 16 v) (10 ∷ []) rest))))))))

pub act_is_printed : (event : Event) (rest : List ℕ) → HasSizes event → act_printed event ++ rest ≡ act_text event rest
act_is_printed (Store hart line offset width value) rest s = store_printed line offset width value rest s.1 s.2 s.3 s.4
act_is_printed (Clean hart line) rest s = numbered_printed (codes "clean l") line rest (omega (arith, s.1))
act_is_printed (Fence hart) rest s = refl
act_is_printed (Begin hart op) rest s = numbered_printed (codes "begin ") op rest s.1
act_is_printed (End hart op) rest s = numbered_printed (codes "end ") op rest s.1

pub hart_small : (event : Event) → HasSizes event → hart_of event < 2 ^ 32
hart_small (Store hart line offset width value) s = s.0
hart_small (Clean hart line) s = s.0
hart_small (Fence hart) s = s
hart_small (Begin hart op) s = s.0
hart_small (End hart op) s = s.0

-- the line of an event, printed behind a text
pub line_is_printed : (number : ℕ) (old place rest : List ℕ) (event : Event) → number < 2 ^ 64 → HasSizes event
    → (((old ++ (decimal number ++ (codes " h" ++ (decimal (hart_of event) ++ codes " ")))) ++ place) ++ act_printed event) ++ rest
    ≡ old ++ placed_line number place event rest
line_is_printed number old place rest event small sizes =
    let hart : hart_of event < 2 ^ 32 = hart_small event sizes in
    rw (decimal_numeral number small, decimal_numeral (hart_of event) (omega arith))
    (append_assoc ((old ++ (numeral 10 number ++ (codes " h" ++ (numeral 10 (hart_of event) ++ codes " ")))) ++ place) (act_printed event) rest
    ∙ append_assoc (old ++ (numeral 10 number ++ (codes " h" ++ (numeral 10 (hart_of event) ++ codes " ")))) place (act_printed event ++ rest)
    ∙ append_assoc old (numeral 10 number ++ (codes " h" ++ (numeral 10 (hart_of event) ++ codes " "))) (place ++ (act_printed event ++ rest))
    ∙ ap (λ (t : List ℕ). old ++ t) (number_onto (numeral 10 number) _ (place ++ (act_printed event ++ rest)) _
    (number_onto (codes " h") _ (place ++ (act_printed event ++ rest)) _
    (append_assoc (numeral 10 (hart_of event)) (codes " ") (place ++ (act_printed event ++ rest)))))
    ∙ ap (λ (t : List ℕ). old ++ (numeral 10 number ++ (codes " h" ++ (numeral 10 (hart_of event) ++ (codes " " ++ (place ++ t)))))) (act_is_printed event rest sizes))

pub last_is_printed : (total : ℕ) → total < 2 ^ 64 → codes "events " ++ (decimal total ++ codes "\n") ≡ last_line total []
last_is_printed total small = ap (λ (digits : List ℕ). codes "events " ++ (digits ++ codes "\n")) (decimal_numeral total small)
