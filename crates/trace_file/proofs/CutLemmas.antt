-- A text cut at a byte, and a text behind its beginning.
use Rattle.std.proofs.Common.{◌≡◌, ℕ, ◌+◌, Bool, true, false, not, List, [], ◌∷◌, ◌++◌, Some, None, length, get_or, take, drop, refl, sym, ap, ◌∙◌, arith, one-add, eqb, position, subst}
use Rattle.std.specs.Prelude.{◌≢◌}
use Rattle.std.specs.List.{list_all, position_or_len, prefix_len}
use Rattle.std.proofs.lemmas.Bool.{and_parts, both_ways, eqb-true, eq-eqb}
use Rattle.std.proofs.lemmas.List.{get_or_at, length-append}
use Rattle.std.proofs.lemmas.List.Sums.{fails_before_first, passes_at_first, split_at_first}
use Rattle.text.proofs.Parting.{found, missing}
use Rattle.trace_file.specs.Cuts.{IsCutAt}

-- bytes other than this one
abbrev pub is_other : ℕ → ℕ → Bool
is_other stop byte = not (eqb byte stop)

passes_more : (q : ℕ → Bool) (b : ℕ) (bs : List ℕ) (t : Bool) → q b ≡ t → list_all q (take (prefix_len q bs) bs) ≡ true
    → list_all q (take (prefix_len q (b ∷ bs)) (b ∷ bs)) ≡ true
passes_more q b bs true h ih = rw (h, one-add, h) ih
passes_more q b bs false h ih = rw h refl

front_passes : (q : ℕ → Bool) (bs : List ℕ) → list_all q (take (prefix_len q bs) bs) ≡ true
front_passes q [] = refl
front_passes q (b ∷ bs) = passes_more q b bs (q b) refl (front_passes q bs)

pub cut_found : (stop place : ℕ) (text : List ℕ) → Some place ≡ position (λ byte. eqb byte stop) text
    → IsCutAt stop text (take place text) (drop (place + 1) text)
cut_found stop place text e =
    let p : ℕ → Bool = λ byte. eqb byte stop in
    let (same, inside) = found p text place (sym e) in
    let here : get_or text (position_or_len p text) 0 ≡ stop = eqb-true _ stop (passes_at_first p text 0 (omega arith)) in
    let whole : text ≡ take (position_or_len p text) text ++ stop ∷ drop (position_or_len p text + 1) text =
    split_at_first p text 0 (omega arith) ∙ ap (λ (byte : ℕ). take (position_or_len p text) text ++ byte ∷ drop (position_or_len p text + 1) text) here in
    record {
      whole = subst (λ (n : ℕ). text ≡ take n text ++ stop ∷ drop (n + 1) text) (sym same) whole;
      first = subst (λ (n : ℕ). list_all (is_other stop) (take n text) ≡ true) (sym same) (front_passes (is_other stop) text);
    }

pub cut_missing : (stop : ℕ) (text : List ℕ) → None ≡ position (λ byte. eqb byte stop) text → (front back : List ℕ) → text ≢ front ++ stop ∷ back
cut_missing stop text e front back is =
    let p : ℕ → Bool = λ byte. eqb byte stop in
    let whole : position_or_len p text ≡ length text = missing p text (sym e) in
    let long : length text ≡ length front + (1 + length back) = ap length is ∙ omega (arith, length-append front (stop ∷ back)) in
    let here : get_or text (length front) 0 ≡ stop = ap (λ (t : List ℕ). get_or t (length front) 0) is ∙ get_or_at front stop back 0 (length front) refl in
    both_ways (p (get_or text (length front) 0)) (fails_before_first p text (length front) 0 (omega arith)) (eq-eqb _ stop here)

-- where two fronts of bytes that pass end at bytes that don't, both are one
pub first_other : (p : ℕ → Bool) (xs us : List ℕ) (a b : ℕ) (ys vs : List ℕ) → list_all p xs ≡ true → p a ≡ false → list_all p us ≡ true → p b ≡ false
    → xs ++ a ∷ ys ≡ us ++ b ∷ vs → (xs ≡ us) × (a ≡ b) × (ys ≡ vs)
first_other p [] [] a b ys vs f m g n e = (refl, cc, cc)
first_other p [] (u ∷ us) a b ys vs f m g n e =
    let same : a ≡ u = cc in
    absurd (both_ways (p u) (ap p (sym same) ∙ m) (and_parts (p u) (list_all p us) g).0)
first_other p (x ∷ xs) [] a b ys vs f m g n e =
    let same : x ≡ b = cc in
    absurd (both_ways (p x) (ap p same ∙ n) (and_parts (p x) (list_all p xs) f).0)
first_other p (x ∷ xs) (u ∷ us) a b ys vs f m g n e =
    let first : x ≡ u = cc in
    let rest : xs ++ a ∷ ys ≡ us ++ b ∷ vs = cc in
    let (front, here, back) = first_other p xs us a b ys vs (and_parts (p x) (list_all p xs) f).1 m (and_parts (p u) (list_all p us) g).1 n rest in
    (cc, here, back)

-- a byte is not other than itself
pub not_other : (stop : ℕ) → is_other stop stop ≡ false
not_other stop = rw (eq-eqb stop stop refl) refl

-- the first of a byte parts a text in one way
pub one_cut : (stop : ℕ) (xs us ys vs : List ℕ) → list_all (is_other stop) xs ≡ true → list_all (is_other stop) us ≡ true
    → xs ++ stop ∷ ys ≡ us ++ stop ∷ vs → (xs ≡ us) × (ys ≡ vs)
one_cut stop xs us ys vs f g e =
    let (front, here, back) = first_other (is_other stop) xs us stop stop ys vs f (not_other stop) g (not_other stop) e in (front, back)

-- one beginning has one rest
pub same_rest : (front xs ys : List ℕ) → front ++ xs ≡ front ++ ys → xs ≡ ys
same_rest [] xs ys e = e
same_rest (b ∷ front) xs ys e = let rest : front ++ xs ≡ front ++ ys = cc in same_rest front xs ys rest
