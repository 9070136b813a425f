-- Lists of held lines from which one is taken, and into which one is put.
use Rattle.std.proofs.Common.{◌≡◌, inl, inr, ℕ, ◌+◌, ◌==◌, ◌<◌, Bool, true, false, nat_le, nat_lt, cond, List, [], ◌∷◌, ◌++◌, Some, None, take, drop, insert, arith, refl, ◌∙◌}
use Rattle.std.specs.Prelude.{filter}
use Rattle.std.specs.Option.{option_or}
use Rattle.std.proofs.lemmas.Bool.{cases_Bool}
use Rattle.std.proofs.lemmas.Bool.Decides.{nat_tests}
use Rattle.std.proofs.lemmas.List.{take-append-drop}
use Rattle.schedule_states.specs.HeldLines.{AreBelow, is_apart, is_low, number_of, on_medium}
use Rattle.schedule_states.specs.declared.held_lines.HeldLine.{HeldLine}

number_appended : (xs ys : List HeldLine) (l : ℕ) → number_of (xs ++ ys) l ≡ option_or (number_of xs l) (number_of ys l)
number_appended [] ys l = refl
number_appended (x ∷ xs) ys l = elim (cases_Bool (x.line == l)) [
  | inl mine ↦ rw mine refl
  | inr other ↦ rw other (number_appended xs ys l)
]

pub number_filtered : (xs : List HeldLine) (line l : ℕ) → number_of (filter (is_apart line) xs) l ≡ cond (l == line) None (number_of xs l)
number_filtered [] line l = elim (cases_Bool (l == line)) [ inl mine ↦ rw mine refl | inr other ↦ rw other refl ]
number_filtered (x ∷ xs) line l = elim (cases_Bool (x.line == line)) [
  | inl gone ↦ elim (cases_Bool (x.line == l)) [
    | inl mine ↦
        let same : (l == line) ≡ true = grind (arith, nat_tests, gone, mine) in
        rw (gone, same) (number_filtered xs line l ∙ rw same refl)
    | inr other ↦ rw (gone, other) (number_filtered xs line l)
  ]
  | inr kept ↦ elim (cases_Bool (x.line == l)) [
    | inl mine ↦
        let apart : (l == line) ≡ false = grind (arith, nat_tests, kept, mine) in
        rw (kept, mine, apart) refl
    | inr other ↦ rw (kept, other) (number_filtered xs line l)
  ]
]

-- a list without the line, into which it is put at any place
inserted_among : (front back : List HeldLine) (line state l : ℕ) → number_of (front ++ back) line ≡ None →
    number_of (front ++ (record { line = line; state = state }) ∷ back) l ≡ cond (l == line) (Some state) (number_of (front ++ back) l)
inserted_among [] back line state l none = elim (cases_Bool (l == line)) [
  | inl mine ↦ let same : (line == l) ≡ true = grind (arith, nat_tests, mine) in rw (mine, same) refl
  | inr other ↦ let apart : (line == l) ≡ false = grind (arith, nat_tests, other) in rw (other, apart) refl
]
inserted_among (x ∷ front) back line state l none = elim (cases_Bool (x.line == line)) [
  | inl mine ↦ let found : Some x.state ≡ None = rw mine at none in cc
  | inr apart ↦ elim (cases_Bool (x.line == l)) [
    | inl here ↦ let other : (l == line) ≡ false = grind (arith, nat_tests, apart, here) in rw (here, other) refl
    | inr there ↦ rw there (inserted_among front back line state l (rw apart at none))
  ]
]

pub number_inserted : (xs : List HeldLine) (at line state l : ℕ) → number_of xs line ≡ None →
    number_of (insert xs at (record { line = line; state = state })) l ≡ cond (l == line) (Some state) (number_of xs l)
number_inserted xs at line state l none =
    let whole : take at xs ++ drop at xs ≡ xs = take-append-drop at xs in
    inserted_among (take at xs) (drop at xs) line state l (rw whole none) ∙ rw whole refl

-- numbers below a number
pub below_filtered : (test : HeldLine → Bool) (count : ℕ) (xs : List HeldLine) → AreBelow count xs → AreBelow count (filter test xs)
below_filtered test count [] h = tt
below_filtered test count (x ∷ xs) h = elim (cases_Bool (test x)) [
  | inl kept ↦ rw kept (h.0, below_filtered test count xs h.1)
  | inr gone ↦ rw gone (below_filtered test count xs h.1)
]

below_joined : (count : ℕ) (front back : List HeldLine) (h : HeldLine) → h.state < count → AreBelow count (front ++ back) → AreBelow count (front ++ h ∷ back)
below_joined count [] back h few all = (few, all)
below_joined count (x ∷ front) back h few all = (all.0, below_joined count front back h few all.1)

pub below_inserted : (count : ℕ) (xs : List HeldLine) (at : ℕ) (h : HeldLine) → h.state < count → AreBelow count xs → AreBelow count (insert xs at h)
below_inserted count xs at h few all =
    let whole : take at xs ++ drop at xs ≡ xs = take-append-drop at xs in
    below_joined count (take at xs) (drop at xs) h few (rw whole all)

pub number_below : (count : ℕ) (xs : List HeldLine) (l n : ℕ) → AreBelow count xs → number_of xs l ≡ Some n → n < count
number_below count [] l n h found = cc
number_below count (x ∷ xs) l n h found = elim (cases_Bool (x.line == l)) [
  | inl mine ↦ let is : Some x.state ≡ Some n = rw mine at found in let same : x.state ≡ n = cc in rw same at h.0
  | inr other ↦ number_below count xs l n h.1 (rw other at found)
]

pub number_low : (xs : List HeldLine) (l : ℕ) → l < 2048 → number_of (filter is_low xs) l ≡ number_of xs l
number_low [] l h = refl
number_low (x ∷ xs) l h = elim (cases_Bool (x.line == l)) [
  | inl mine ↦
      let low : nat_lt x.line 2048 ≡ true = grind (arith, nat_tests, mine, h) in
      rw (low, mine) refl
  | inr other ↦ elim (cases_Bool (nat_lt x.line 2048)) [
    | inl kept ↦ rw (kept, other) (number_low xs l h)
    | inr gone ↦ rw (gone, other) (number_low xs l h)
  ]
]

pub number_on_medium : (xs : List HeldLine) (l : ℕ) → number_of (on_medium xs) (16777216 + l) ≡ number_of xs (16777216 + l)
number_on_medium [] l = refl
number_on_medium (x ∷ xs) l = elim (cases_Bool (x.line == 16777216 + l)) [
  | inl mine ↦
      let high : nat_le 16777216 x.line ≡ true = grind (arith, nat_tests, mine) in
      rw (high, mine) refl
  | inr other ↦ elim (cases_Bool (nat_le 16777216 x.line)) [
    | inl kept ↦ rw (kept, other) (number_on_medium xs l)
    | inr gone ↦ rw (gone, other) (number_on_medium xs l)
  ]
]
