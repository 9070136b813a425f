-- The least bad cut is the least of the bad ones among the least cuts of the branches.
use Rattle.std.proofs.Common.{◌≡◌, ℕ, zero, suc, ◌≤◌, ◌<◌, ◌≢◌, Bool, ltb, ◌⊎◌, inl, inr, List, [], ◌∷◌, Option, None, sym, ap, subst, ◌∙◌, arith, true≢false}
use Rattle.std.proofs.lemmas.Bool.{cases_Bool, cases_eq, cases_lt}
use Rattle.std.specs.List.{AllByRecursion}
use Rattle.verdict.specs.Branches.{Agree, IsWithin, ComesBefore}
use Rattle.verdict.specs.Openings.{AreLeast, Covers, IsFinished, IsPast, Node}
use Rattle.verdict.specs.declared.branches.question.Question.{Question}
use Rattle.verdict.proofs.Alikes.{alike_agreed}

-- the cut of a finished node is at most each of the node's cuts
below_all : (alike : Question → ℕ → ℕ → Bool) (low high k : ℕ → ℕ) (v : Node) → AreLeast alike low v → Agree alike k v.numbers v.decided → IsWithin low high k →
    (l : ℕ) → v.numbers l ≤ k l
below_all alike low high k v least s w l = elim (cases_lt (k l) (v.numbers l)) [
  | inl below ↦ absurd (true≢false (sym (alike_agreed alike k v.numbers l v.decided s) ∙ least l (k l) (w.least l) below))
  | inr past ↦ omega (arith, past)
]

-- up to line n they are the same, or they differ before
differ_by : (c k best : ℕ → ℕ) (l n : ℕ) → ((m : ℕ) → c m ≤ k m) → ((m : ℕ) → m < l → k m ≡ best m) → n ≤ l →
    ComesBefore c best ⊎ ((m : ℕ) → m < n → c m ≡ best m)
differ_by c k best l zero le same h = inr (λ m less. absurd (omega (arith, less)))
differ_by c k best l (suc n) le same h = elim (differ_by c k best l n le same (omega (arith, h))) [
  | inl b ↦ inl b
  | inr e ↦ elim (cases_eq (c n) (best n)) [
    | inl q ↦ inr (λ m less. elim (cases_eq m n) [
      | inl s ↦ ap c s ∙ q ∙ sym (ap best s)
      | inr ne ↦ e m (omega (arith, less, ne))
    ])
    | inr ne ↦ inl (record {
      line = n;
      lower = let a = le n in let b : k n ≡ best n = same n (omega (arith, h)) in omega (arith, a, b, ne);
      same = e;
    })
  ]
]

before_best : (c k best : ℕ → ℕ) → ((m : ℕ) → c m ≤ k m) → ComesBefore k best → ComesBefore c best
before_best c k best le b = elim (differ_by c k best b.line b.line le b.same (omega arith)) [
  | inl r ↦ r
  | inr e ↦ record { line = b.line; lower = let a = le b.line in let h = b.lower in omega (arith, a, h); same = e }
]

pub before_over : (c k best : ℕ → ℕ) → ComesBefore c k → ComesBefore k best → ComesBefore c best
before_over c k best a b = elim (cases_Bool (ltb a.line b.line)) [
  | inl t ↦ let less : a.line < b.line = grind (arith, t) in record {
    line = a.line;
    lower = let p = a.lower in let e : k a.line ≡ best a.line = b.same a.line less in omega (arith, p, e);
    same = λ m h. a.same m h ∙ b.same m (omega (arith, h, less));
  }
  | inr f ↦ let le : b.line ≤ a.line = grind (arith, f) in elim (cases_eq a.line b.line) [
    | inl e ↦ record {
      line = a.line;
      lower = let p = a.lower in let q : k a.line < best a.line = subst (λ (n : ℕ). k n < best n) (sym e) b.lower in omega (arith, p, q);
      same = λ m h. a.same m h ∙ b.same m (omega (arith, h, e));
    }
    | inr ne ↦ record {
      line = b.line;
      lower = let p = b.lower in let e : c b.line ≡ k b.line = a.same b.line (omega (arith, le, ne)) in omega (arith, p, e);
      same = λ m h. a.same m (omega (arith, h, le)) ∙ b.same m h;
    }
  ]
]

-- they are the same below a line, or there is the first in which they differ
first_difference : (c best : ℕ → ℕ) (n : ℕ) → ((m : ℕ) → m < n → c m ≡ best m) ⊎ ((l : ℕ) × (l < n) × (c l ≢ best l) × ((m : ℕ) → m < l → c m ≡ best m))
first_difference c best zero = inl (λ m less. absurd (omega (arith, less)))
first_difference c best (suc n) = elim (first_difference c best n) [
  | inr d ↦ inr (d.0, (let less = d.1 in omega (arith, less)), d.2, d.3)
  | inl same ↦ elim (cases_eq (c n) (best n)) [
    | inr ne ↦ inr (n, omega arith, ne, same)
    | inl e ↦ inl (λ m less. elim (cases_eq m n) [
      | inl s ↦ ap c s ∙ e ∙ sym (ap best s)
      | inr ne ↦ same m (omega (arith, less, ne))
    ])
  ]
]

-- what comes before a cut comes before each that doesn't come before that one
pub before_other : (c k best : ℕ → ℕ) → ¬ ComesBefore k best → ComesBefore c best → ComesBefore c k
before_other c k best n b = elim (first_difference k best (suc b.line)) [
  | inl same ↦ record {
    line = b.line;
    lower = let h = b.lower in let e : k b.line ≡ best b.line = same b.line (omega arith) in omega (arith, h, e);
    same = λ m less. b.same m less ∙ sym (same m (omega (arith, less)));
  }
  | inr d ↦ elim (cases_Bool (ltb (k d.0) (best d.0))) [
    | inl t ↦ absurd (n (record { line = d.0; lower = grind (arith, t); same = d.3 }))
    | inr f ↦
        let l : ℕ = d.0 in
        let upto : l < suc b.line = d.1 in
        let ne : k l ≢ best l = d.2 in
        let ge : best l ≤ k l = grind (arith, f) in
        elim (cases_eq l b.line) [
          | inl e ↦ record {
            line = l;
            lower = let h : c l < best l = subst (λ (m : ℕ). c m < best m) (sym e) b.lower in omega (arith, h, ge);
            same = λ m less. b.same m (omega (arith, less, e)) ∙ sym (d.3 m less);
          }
          | inr other ↦ record {
            line = l;
            lower = let h : c l ≡ best l = b.same l (omega (arith, upto, other)) in omega (arith, h, ge, ne);
            same = λ m less. b.same m (omega (arith, less, upto)) ∙ sym (d.3 m less);
          }
        ]
  ]
]

pub never_itself : (c : ℕ → ℕ) → ¬ ComesBefore c c
never_itself c b = let h = b.lower in absurd (omega (arith, h))

-- of the finished nodes, none has a cut that is bad and comes before this one
pub least_of : {Cause : Type 0} (alike : Question → ℕ → ℕ → Bool) (asks : (ℕ → ℕ) → List Question → Type 0) (judged : (ℕ → ℕ) → Option Cause → Type 0) (low high best k : ℕ → ℕ) (vs : List Node) →
    ((c k : ℕ → ℕ) (qs : List Question) (found : Option Cause) → asks c qs → Agree alike k c qs → judged c found → judged k found) →
    AllByRecursion (IsFinished alike asks low high) vs → AllByRecursion (IsPast judged best) vs → IsWithin low high k → ComesBefore k best → Covers alike k vs → judged k None
least_of alike asks judged low high best k [] w f n i b h = absurd h
least_of alike asks judged low high best k (v ∷ vs) w f n i b (inl h) = elim n.0 [
  | inl p ↦ w v.numbers k v.decided None f.0.asked h p
  | inr q ↦ absurd (q (before_best v.numbers k best (below_all alike low high k v f.0.least h i) b))
]
least_of alike asks judged low high best k (v ∷ vs) w f n i b (inr h) = least_of alike asks judged low high best k vs w f.1 n.1 i b h

-- where the cut of each finished node passes, all do
pub pass_of : {Cause : Type 0} (alike : Question → ℕ → ℕ → Bool) (asks : (ℕ → ℕ) → List Question → Type 0) (judged : (ℕ → ℕ) → Option Cause → Type 0) (low high k : ℕ → ℕ) (vs : List Node) →
    ((c k : ℕ → ℕ) (qs : List Question) (found : Option Cause) → asks c qs → Agree alike k c qs → judged c found → judged k found) →
    AllByRecursion (IsFinished alike asks low high) vs → AllByRecursion (λ v. judged v.numbers None) vs → Covers alike k vs → judged k None
pass_of alike asks judged low high k [] w f n h = absurd h
pass_of alike asks judged low high k (v ∷ vs) w f n (inl h) = w v.numbers k v.decided None f.0.asked h n.0
pass_of alike asks judged low high k (v ∷ vs) w f n (inr h) = pass_of alike asks judged low high k vs w f.1 n.1 h
