-- The needed evictions of a cut leave each line at its number.
use Rattle.std.proofs.Common.{◌≡◌, ℕ, ◌<◌, ◌==◌, All, List, [], ◌∷◌, map, refl, ◌∙◌, inl, inr, arith}
use Rattle.std.proofs.lemmas.Bool.{cases_Bool}
use Rattle.std.proofs.lemmas.Bool.Decides.{nat_tests}
use Rattle.std.proofs.lemmas.List.Elements.{All-map}
use Rattle.store_trace.proofs.Explained.{explained_leaves}
use Rattle.store_trace.proofs.Lines.{within_from_cut}
use Rattle.store_trace.specs.Cut.{IsCut, number_in}
use Rattle.store_trace.specs.Schedule.{explained, without_evictions}
use Rattle.store_trace.specs.WrittenBack.{written_back}
use Rattle.store_trace.specs.declared.crash_model.step.PersistenceStep.{PersistenceStep}
use Rattle.witness.specs.Needed.{needed, needed_entry}
use Rattle.witness.proofs.OneLine.{explained_alike, unevicted_alike}

-- the needed entries of a cut give each line its needed number
needed_at : (p : List PersistenceStep) (cut : List (ℕ × ℕ)) (l : ℕ) → number_in (map (needed_entry p) cut) l ≡ needed cut p l
needed_at p [] l = elim (cases_Bool (written_back l p == 0)) [ inl is ↦ rw is refl | inr other ↦ rw other refl ]
needed_at p (entry ∷ cut) l = elim (cases_Bool (entry.0 == l)) [
  | inl mine ↦
      let is : entry.0 ≡ l = grind (arith, nat_tests, mine) in
      rw (mine, is) refl
  | inr other ↦ rw other (needed_at p cut l)
]

pub needed_numbers : (p : List PersistenceStep) (cut : List (ℕ × ℕ)) → number_in (map (needed_entry p) cut) ≡ needed cut p
needed_numbers p cut = λ i. λ l. needed_at p cut l i

-- and name no other lines
pub needed_lines : (n : ℕ) (p : List PersistenceStep) (cut found : List (ℕ × ℕ)) → found ≡ map (needed_entry p) cut
    → All (λ entry. entry.0 < n) cut → All (λ entry. entry.0 < n) found
needed_lines n p cut found is named = rw is (All-map (λ (entry : ℕ × ℕ). entry.0 < n) (needed_entry p) cut named)

-- by them each line stands at its number
pub needed_leaves : (p : List PersistenceStep) (cut : List (ℕ × ℕ)) → without_evictions p ≡ p → IsCut p cut → (l : ℕ)
    → written_back l (explained (needed cut p) p) ≡ number_in cut l
needed_leaves p cut alone is l = elim (cases_Bool (written_back l p == number_in cut l)) [
  | inl there ↦
      let none : needed cut p l ≡ 0 = rw there refl in
      let same : written_back l p ≡ number_in cut l = grind (arith, nat_tests, there) in
      (unevicted_alike (needed cut p) l p none alone).written ∙ same
  | inr other ↦
      let same : needed cut p l ≡ number_in cut l = rw other refl in
      (explained_alike (needed cut p) (number_in cut) l p same).written ∙ explained_leaves p (number_in cut) (within_from_cut p cut is) l
]
