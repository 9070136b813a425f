-- There are no more cuts of which no two share a branch than there are branches.
use Rattle.std.proofs.Common.{◌≡◌, ℕ, suc, ◌≤◌, ◌<◌, inl, inr, Bool, List, [], ◌∷◌, length, get_or, subst, arith}
use Rattle.std.specs.List.{AllByRecursion, AllPairs}
use Rattle.verdict.specs.Branches.{Agree, IsEquivalence, IsAdaptive, IsWithin, ShareBranch, AreOver}
use Rattle.verdict.proofs.Alikes.{agree_chained, agree_self, agree_turned}
use Rattle.verdict.specs.declared.branches.question.Question.{Question}
use Rattle.verdict.proofs.Splitting.{HasShared, asked_same}

abbrev Cuts : Type 0
Cuts = List (ℕ → ℕ)

-- two cuts that share a branch with a third share one
shared_both : (alike : Question → ℕ → ℕ → Bool) (asks : (ℕ → ℕ) → List Question → Type 0) (c k j : ℕ → ℕ) → IsEquivalence alike → IsAdaptive alike asks → ShareBranch alike asks c k → ShareBranch alike asks c j → ShareBranch alike asks k j
shared_both alike asks c k j eq a s t =
    let e : t.questions ≡ s.questions = asked_same alike asks c c s.questions t.questions a s.of_one t.of_one (agree_self alike c s.questions eq) in
    record {
      questions = s.questions;
      of_one = s.of_other;
      of_other = subst (λ (xs : List Question). asks j xs) e t.of_other;
      agree = agree_chained alike j c k s.questions eq (subst (λ (xs : List Question). Agree alike j c xs) e t.agree) (agree_turned alike c k s.questions eq s.agree);
    }

-- no cut of the list shares the branch of k
abbrev AreOther : (Question → ℕ → ℕ → Bool) → ((ℕ → ℕ) → List Question → Type 0) → (ℕ → ℕ) → Cuts → Type 0
AreOther alike asks k ks = AllByRecursion (λ j. ¬ ShareBranch alike asks k j) ks

abbrev Different : (Question → ℕ → ℕ → Bool) → ((ℕ → ℕ) → List Question → Type 0) → Cuts → Type 0
Different alike asks [] = Unit {0}
Different alike asks (k ∷ ks) = AreOther alike asks k ks × Different alike asks ks

abbrev AllShared : (Question → ℕ → ℕ → Bool) → ((ℕ → ℕ) → List Question → Type 0) → Cuts → Cuts → Type 0
AllShared alike asks cs ks = AllByRecursion (λ k. HasShared alike asks k cs) ks

-- the cuts without the one that shares the branch of the first
record Rest (alike : Question → ℕ → ℕ → Bool) (asks : (ℕ → ℕ) → List Question → Type 0) (cs ks : Cuts) : Type 0 where
  rest : Cuts
  size : length ks ≤ suc (length rest)
  different : Different alike asks rest
  shared : AllShared alike asks cs rest
  other : (k : ℕ → ℕ) → AreOther alike asks k ks → AreOther alike asks k rest

-- where one cut shares the first branch, the others share later ones
later_shared : (alike : Question → ℕ → ℕ → Bool) (asks : (ℕ → ℕ) → List Question → Type 0) (c k : ℕ → ℕ) (cs ks : Cuts) → IsEquivalence alike → IsAdaptive alike asks → ShareBranch alike asks c k → AreOther alike asks k ks →
    AllShared alike asks (c ∷ cs) ks → AllShared alike asks cs ks
later_shared alike asks c k cs [] eq a s o h = tt
later_shared alike asks c k cs (j ∷ ks) eq a s o h = (
  elim h.0 [ inl t ↦ absurd (o.0 (shared_both alike asks c k j eq a s t)) | inr t ↦ t ],
  later_shared alike asks c k cs ks eq a s o.1 h.1,
)

without : (alike : Question → ℕ → ℕ → Bool) (asks : (ℕ → ℕ) → List Question → Type 0) (c : ℕ → ℕ) (cs ks : Cuts) → IsEquivalence alike → IsAdaptive alike asks → Different alike asks ks → AllShared alike asks (c ∷ cs) ks → Rest alike asks cs ks
without alike asks c cs [] eq a d h = record { rest = []; size = omega arith; different = tt; shared = tt; other = λ k o. o }
without alike asks c cs (k ∷ ks) eq a d h = elim h.0 [
  | inl s ↦ record { rest = ks; size = omega arith; different = d.1; shared = later_shared alike asks c k cs ks eq a s d.0 h.1; other = λ j o. o.1 }
  | inr s ↦
      let r : Rest alike asks cs ks = without alike asks c cs ks eq a d.1 h.1 in
      record {
        rest = k ∷ r.rest;
        size = let e = r.size in omega (arith, e);
        different = (r.other k d.0, r.different);
        shared = (s, r.shared);
        other = λ j o. (o.0, r.other j o.1);
      }
]

no_more : (alike : Question → ℕ → ℕ → Bool) (asks : (ℕ → ℕ) → List Question → Type 0) (cs ks : Cuts) → IsEquivalence alike → IsAdaptive alike asks → Different alike asks ks → AllShared alike asks cs ks → length ks ≤ length cs
no_more alike asks [] [] eq a d h = omega arith
no_more alike asks [] (k ∷ ks) eq a d h = absurd h.0
no_more alike asks (c ∷ cs) ks eq a d h =
    let r : Rest alike asks cs ks = without alike asks c cs ks eq a d h in
    let e = no_more alike asks cs r.rest eq a r.different r.shared in
    let f = r.size in omega (arith, e, f)

other_each : (alike : Question → ℕ → ℕ → Bool) (asks : (ℕ → ℕ) → List Question → Type 0) (k : ℕ → ℕ) (ks : Cuts) → ((i : ℕ) (d : ℕ → ℕ) → i < length ks → ¬ ShareBranch alike asks k (get_or ks i d)) → AreOther alike asks k ks
other_each alike asks k [] h = tt
other_each alike asks k (j ∷ ks) h = (h 0 j (omega arith), other_each alike asks k ks (λ i d less. h (suc i) d (omega (arith, less))))

different_each : (alike : Question → ℕ → ℕ → Bool) (asks : (ℕ → ℕ) → List Question → Type 0) (ks : Cuts) → AllPairs (λ c k. ¬ ShareBranch alike asks c k) ks → Different alike asks ks
different_each alike asks [] h = tt
different_each alike asks (k ∷ ks) h = (
  other_each alike asks k ks (λ i d less. h 0 (suc i) d (omega arith) (omega (arith, less))),
  different_each alike asks ks (λ i j d less there. h (suc i) (suc j) d (omega (arith, less)) (omega (arith, there))),
)

shared_each : (alike : Question → ℕ → ℕ → Bool) (asks : (ℕ → ℕ) → List Question → Type 0) (low high : ℕ → ℕ) (cs ks : Cuts) → ((k : ℕ → ℕ) → IsWithin low high k → HasShared alike asks k cs) →
    AllByRecursion (IsWithin low high) ks → AllShared alike asks cs ks
shared_each alike asks low high cs [] h w = tt
shared_each alike asks low high cs (k ∷ ks) h w = (h k w.0, shared_each alike asks low high cs ks h w.1)

-- where each cut shares a branch with one of these, there aren't over so many branches
pub not_over : (alike : Question → ℕ → ℕ → Bool) (asks : (ℕ → ℕ) → List Question → Type 0) (low high : ℕ → ℕ) (limit : ℕ) (cuts : Cuts) → IsEquivalence alike → IsAdaptive alike asks →
    ((k : ℕ → ℕ) → IsWithin low high k → HasShared alike asks k cuts) → length cuts ≤ limit → ¬ AreOver alike asks low high limit
not_over alike asks low high limit cuts eq a all few o =
    let e = no_more alike asks cuts o.cuts eq a (different_each alike asks o.cuts o.apart.apart) (shared_each alike asks low high cuts o.cuts all o.apart.each) in
    let f = o.more in absurd (omega (arith, e, f, few))
