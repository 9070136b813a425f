-- What holds of lines that are alike just where they have the same number of stores.
use Rattle.std.proofs.Common.{◌≡◌, ℕ, ◌+◌, ◌-◌, ◌<◌, ◌≢◌, ◌&&◌, ◌||◌, Bool, true, false, not, eqb, zero, suc, inl, inr, refl, sym, ◌∙◌, arith}
use Rattle.std.specs.Prelude.{bit_or}
use Rattle.std.proofs.lemmas.Bool.{cases_Bool, cases_eq}
use Rattle.std.proofs.lemmas.Nat.{le_or_l, le_or_r}
use Rattle.verdict.specs.Branches.{IsEquivalence, is_first, none_of, question, same_number}
use Rattle.verdict.specs.declared.branches.question.Question.{Question}
use Rattle.verdict.proofs.Alikes.{not_first}

either : (a b : Bool) → b ≡ true → (a || b) ≡ true
either true b e = refl
either false b e = e

-- no bytes are asked, or the numbers are the same
cases_same : (q : Question) (n m : ℕ) (P : Type 0) → same_number q n m ≡ true → (eqb q.bytes 0 ≡ true → P) → (n ≡ m → P) → P
cases_same q n m P h none same = elim (cases_Bool (eqb q.bytes 0)) [
  | inl t ↦ none t
  | inr f ↦ let e : eqb n m ≡ true = rw f at h in same (grind (arith, e))
]

pub numbers_equal : IsEquivalence same_number
numbers_equal = record {
  itself = λ q n. either (eqb q.bytes 0) (eqb n n) (let e : eqb n n ≡ true = grind arith in e);
  back = λ q n m h. cases_same q n m (same_number q m n ≡ true) h (λ t. rw t refl) (λ e. either (eqb q.bytes 0) (eqb m n) (let s : eqb m n ≡ true = grind (arith, e) in s));
  on = λ q n m o h g. cases_same q n m (same_number q n o ≡ true) h (λ t. rw t refl) (λ e. rw e g);
}

pub numbers_nothing : (l n m : ℕ) → same_number (question l 0) n m ≡ true
numbers_nothing l n m = refl

same_both : (x y z e : Bool) → z ≡ (x && y) → (z || e) ≡ ((x || e) && (y || e))
same_both true true z true h = rw h refl
same_both true true z false h = rw h refl
same_both true false z true h = rw h refl
same_both true false z false h = rw h refl
same_both false y z true h = elim z as (λ b. (b || true) ≡ (true && (y || true))) [ true ↦ sym (either y true refl) | false ↦ sym (either y true refl) ]
same_both false y z false h = rw h refl

none_of_both : (a b : ℕ) → eqb (bit_or a b) 0 ≡ (eqb a 0 && eqb b 0)
none_of_both a b = elim (cases_eq a 0) [
  | inl z ↦ elim (cases_eq b 0) [
    | inl y ↦ rw (z, y) refl
    | inr n ↦
        let most = le_or_r a b in
        let f : eqb (bit_or a b) 0 ≡ false = (let some : bit_or a b ≢ 0 = λ e. omega (arith, e, most, n) in grind (arith, some)) in
        let g : eqb b 0 ≡ false = grind (arith, n) in
        f ∙ sym (rw g (elim (eqb a 0) as (λ x. (x && false) ≡ false) [ true ↦ refl | false ↦ refl ]))
  ]
  | inr n ↦
      let most = le_or_l a b in
      let f : eqb (bit_or a b) 0 ≡ false = (let some : bit_or a b ≢ 0 = λ e. omega (arith, e, most, n) in grind (arith, some)) in
      let g : eqb a 0 ≡ false = grind (arith, n) in
      f ∙ sym (rw g refl)
]

pub numbers_both : (l a b n m : ℕ) → same_number (question l (bit_or a b)) n m ≡ (same_number (question l a) n m && same_number (question l b) n m)
numbers_both l a b n m = same_both (eqb a 0) (eqb b 0) (eqb (bit_or a b) 0) (eqb n m) (none_of_both a b)

-- a number is the first of those alike to it just where bytes are asked
none_lower : (holds : ℕ → Bool) (n more : ℕ) → ((m : ℕ) → m < n + more → holds m ≡ false) → none_of holds n more ≡ true
none_lower holds n zero h = refl
none_lower holds n (suc more) h =
    rw (h n (omega arith)) (none_lower holds (n + 1) more (λ m less. h m (omega (arith, less))))

pub numbers_first : (q : Question) (low n : ℕ) → low < n → is_first (same_number q) low n ≡ not (eqb q.bytes 0)
numbers_first q low n less = elim (cases_Bool (eqb q.bytes 0)) [
  | inl t ↦ not_first (same_number q) low n low (omega arith) less (rw t refl) ∙ (rw t refl)
  | inr f ↦ none_lower (λ m. same_number q m n) low (n - low)
      (λ m under. let ne : eqb m n ≡ false = (let h : m < n = omega (arith, under, less) in grind (arith, h)) in rw (f, ne) refl) ∙ (rw f refl)
]
