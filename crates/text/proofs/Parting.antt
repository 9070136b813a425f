-- How a text's parts begin, and what `position` finds.
use Rattle.std.proofs.Common.{◌≡◌, ℕ, ◌<◌, Bool, true, false, not, cond, List, [], ◌∷◌, Option, Some, None, length, get_or, take, drop, refl, sym, ◌∙◌, arith, one-add, add-zero, ltb, position, unwrap_or, length-drop, length-take}
use Rattle.std.specs.List.{filter, position_or_len, slice_split}
use Rattle.std.proofs.lemmas.Bool.{lt-ltb, ltb-false, ltb-true}
use Rattle.std.proofs.lemmas.List.{drop_all, get_or-drop}
use Rattle.std.proofs.lemmas.List.Sums.{prefix_len-le-length, passes_at_first}
use Rattle.text.specs.Words.{behind_part, first_part, from_part, is_filled, parts}

-- the place that `position` finds
found_at : {X : Type 0} (p : X → Bool) (bs : List X) (n : ℕ) (t : Bool) → ltb (position_or_len p bs) (length bs) ≡ t
    → cond t (Some (position_or_len p bs)) None ≡ Some n → (n ≡ position_or_len p bs) × (n < length bs)
found_at p bs n true h e = (cc, omega (arith, ltb-true _ _ h, let same : n ≡ position_or_len p bs = cc in same))
found_at p bs n false h e = absurd cc

pub found : {X : Type 0} (p : X → Bool) (bs : List X) (n : ℕ) → position p bs ≡ Some n → (n ≡ position_or_len p bs) × (n < length bs)
found p bs n e = found_at p bs n _ refl e

missing_at : {X : Type 0} (p : X → Bool) (bs : List X) (t : Bool) → ltb (position_or_len p bs) (length bs) ≡ t
    → cond t (Some (position_or_len p bs)) None ≡ None → position_or_len p bs ≡ length bs
missing_at p bs true h e = absurd cc
missing_at p bs false h e = omega (arith, ltb-false _ _ h, prefix_len-le-length (λ b. not (p b)) bs)

pub missing : {X : Type 0} (p : X → Bool) (bs : List X) → position p bs ≡ None → position_or_len p bs ≡ length bs
missing p bs e = missing_at p bs _ refl e

ends_in : {X : Type 0} (p : X → Bool) (bs : List X) (r : Option ℕ) → position p bs ≡ r → unwrap_or r (length bs) ≡ position_or_len p bs
ends_in p bs None e = sym (missing p bs e)
ends_in p bs (Some n) e = let (same, inside) = found p bs n e in same

pub ends_at : {X : Type 0} (p : X → Bool) (bs : List X) → unwrap_or (position p bs) (length bs) ≡ position_or_len p bs
ends_at p bs = ends_in p bs (position p bs) refl

pub not_true : (b : Bool) → not b ≡ true → b ≡ false
not_true true e = absurd cc
not_true false e = refl

-- a blank in front changes no part
blank_skipped : (p : ℕ → Bool) (b : ℕ) (bs : List ℕ) → p b ≡ true → parts p (b ∷ bs) ≡ parts p bs
blank_skipped p b bs h = rw h refl

skipped_more : (p : ℕ → Bool) (b : ℕ) (bs : List ℕ) (t : Bool) → p b ≡ t → parts p bs ≡ parts p (from_part p bs)
    → parts p (b ∷ bs) ≡ parts p (from_part p (b ∷ bs))
skipped_more p b bs true h ih = rw (blank_skipped p b bs h, h, one-add) ih
skipped_more p b bs false h ih = rw (h, h) refl

-- nor do all the blanks in front
skipped : (p : ℕ → Bool) (text : List ℕ) → parts p text ≡ parts p (from_part p text)
skipped p [] = refl
skipped p (b ∷ bs) = skipped_more p b bs (p b) refl (skipped p bs)

-- a text before its first blank, and the parts of the rest
record IsCut (p : ℕ → Bool) (text : List ℕ) : Type 0 where
  others : List (List ℕ)
  split : slice_split p text ≡ take (position_or_len p text) text ∷ others
  rest : filter is_filled others ≡ parts p (drop (position_or_len p text) text)

cut_more : (p : ℕ → Bool) (b : ℕ) (bs : List ℕ) (t : Bool) → p b ≡ t → IsCut p bs → IsCut p (b ∷ bs)
cut_more p b bs true h cut = record {
  others = slice_split p bs;
  split = rw h refl;
  rest = rw h (sym (blank_skipped p b bs h));
}
cut_more p b bs false h cut = record {
  others = cut.others;
  split = rw (h, one-add, cut.split) refl;
  rest = rw (h, one-add) cut.rest;
}

cut_of : (p : ℕ → Bool) (text : List ℕ) → IsCut p text
cut_of p [] = record { others = []; split = refl; rest = refl }
cut_of p (b ∷ bs) = cut_more p b bs (p b) refl (cut_of p bs)

-- where no byte is another than a blank there is no part
pub no_parts : (p : ℕ → Bool) (text : List ℕ) → position (λ byte. not (p byte)) text ≡ None → parts p text ≡ []
no_parts p text none =
    let whole : position_or_len (λ byte. not (p byte)) text ≡ length text = missing (λ byte. not (p byte)) text none in
    skipped p text ∙ rw (whole, drop_all (length text) text (omega arith)) refl

first_of_cut : (p : ℕ → Bool) (text : List ℕ) → 0 < position_or_len p text → IsCut p text
    → parts p text ≡ take (position_or_len p text) text ∷ parts p (drop (position_or_len p text) text)
first_of_cut p text some cut =
    let long : 0 < length (take (position_or_len p text) text) =
    omega (arith, length-take (position_or_len p text) text, prefix_len-le-length (λ b. not (p b)) text) in
    rw (cut.split, lt-ltb 0 (length (take (position_or_len p text) text)) long, cut.rest) refl

part_begins : (p : ℕ → Bool) (text : List ℕ) → 0 < length text → p (get_or text 0 0) ≡ false → 0 < position_or_len p text
part_begins p [] some other = absurd (omega arith)
part_begins p (b ∷ bs) some other = rw other (omega arith)

-- the first part stands between the blanks in front and the next blank
pub first_parted : (p : ℕ → Bool) (text : List ℕ) (start : ℕ) → position (λ byte. not (p byte)) text ≡ Some start
    → parts p text ≡ first_part p text ∷ parts p (behind_part p text)
first_parted p text start begins =
    let (same, inside) = found (λ byte. not (p byte)) text start begins in
    let here : p (get_or text start 0) ≡ false =
    not_true _ (rw same (passes_at_first (λ byte. not (p byte)) text 0 (omega arith))) in
    let rest : List ℕ = drop start text in
    let some : 0 < length rest = omega (arith, length-drop start text) in
    let at_part : p (get_or rest 0 0) ≡ false = rw (get_or-drop start text 0 0, add-zero) here in
    let cut = first_of_cut p rest (part_begins p rest some at_part) (cut_of p rest) in
    skipped p text ∙ rw (← same) cut

parts_at : (p : ℕ → Bool) (text : List ℕ) (start count : ℕ) → start ≡ position_or_len (λ byte. not (p byte)) text
    → count ≡ position_or_len p (drop start text)
    → (take count (drop start text) ≡ first_part p text) × (drop count (drop start text) ≡ behind_part p text)
parts_at p text start count begins ends = (rw (ends, begins) refl, rw (ends, begins) refl)

-- what is cut at the places found is the first part, and what follows it
pub parts_found : (p : ℕ → Bool) (text : List ℕ) (start count : ℕ) → position (λ byte. not (p byte)) text ≡ Some start
    → count ≡ unwrap_or (position p (drop start text)) (length (drop start text))
    → (take count (drop start text) ≡ first_part p text) × (drop count (drop start text) ≡ behind_part p text)
parts_found p text start count begins ends =
    let (same, inside) = found (λ byte. not (p byte)) text start begins in
    parts_at p text start count same (ends ∙ ends_at p (drop start text))
