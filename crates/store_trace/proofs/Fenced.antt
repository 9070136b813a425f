-- The floor by recursion is the floor by search.
use Rattle.std.proofs.Common.{◌≡◌, ℕ, ◌≤◌, ◌⊎◌, inl, inr, List, [], ◌∷◌, ◌++◌, ◌==◌, ◌&&◌, max, arith, refl, ap}
use Rattle.std.proofs.lemmas.Bool.{cases_Bool}
use Rattle.std.proofs.lemmas.Bool.Decides.{nat_tests}
use Rattle.store_trace.proofs.Bounds.{cleaned_le_stores}
use Rattle.store_trace.specs.Floor.{floor, cleaned, Fenced, IsFloor}
use Rattle.store_trace.specs.Stores.{stores}
use Rattle.store_trace.specs.declared.crash_model.step.PersistenceStep.{PersistenceStep}
use Rattle.store_trace.specs.declared.crash_model.step.PersistenceStep.TheVariants.{Store, Clean, Fence, Evict}

-- a clean further back has at most as many stores before it as the last one
count_le_cleaned : (l h : ℕ) (between before : List PersistenceStep) →
    stores l before ≤ cleaned l h (between ++ (Clean h l ∷ before))
count_le_cleaned l h [] before = grind (arith, nat_tests)
count_le_cleaned l h (Store m o w v ∷ q) before = count_le_cleaned l h q before
count_le_cleaned l h (Clean g m ∷ q) before =
    grind (arith, nat_tests, count_le_cleaned l h q before, cleaned_le_stores l h (q ++ (Clean h l ∷ before)))
count_le_cleaned l h (Fence g ∷ q) before = count_le_cleaned l h q before
count_le_cleaned l h (Evict m ∷ q) before = count_le_cleaned l h q before

cleaned_le_floor : (l h : ℕ) (after earlier : List PersistenceStep) →
    cleaned l h earlier ≤ floor l (after ++ (Fence h ∷ earlier))
cleaned_le_floor l h [] earlier = grind (arith, nat_tests)
cleaned_le_floor l h (Store m o w v ∷ q) earlier = cleaned_le_floor l h q earlier
cleaned_le_floor l h (Clean g m ∷ q) earlier = cleaned_le_floor l h q earlier
cleaned_le_floor l h (Fence g ∷ q) earlier = grind (arith, nat_tests, cleaned_le_floor l h q earlier)
cleaned_le_floor l h (Evict m ∷ q) earlier = cleaned_le_floor l h q earlier

fenced_le_floor : (l : ℕ) (p : List PersistenceStep) (d : ℕ) → Fenced l d p → d ≤ floor l p
fenced_le_floor l p d f =
    rw f.place (omega (
      arith,
      f.count,
      count_le_cleaned l f.hart f.between f.before,
      cleaned_le_floor l f.hart f.after (f.between ++ (Clean f.hart l ∷ f.before)),
    ))

-- the clean before which `cleaned` counts
record Cleaned (l h c : ℕ) (p : List PersistenceStep) : Type 0 where
  between : List PersistenceStep
  before : List PersistenceStep
  place : p ≡ between ++ (Clean h l ∷ before)
  count : stores l before ≡ c

cleaned_more : (l h c : ℕ) (step : PersistenceStep) (p : List PersistenceStep) → Cleaned l h c p → Cleaned l h c (step ∷ p)
cleaned_more l h c step p f = record {
  between = step ∷ f.between;
  before = f.before;
  place = ap (λ (q : List PersistenceStep). step ∷ q) f.place;
  count = f.count;
}

fenced_more : (l c : ℕ) (step : PersistenceStep) (p : List PersistenceStep) → Fenced l c p → Fenced l c (step ∷ p)
fenced_more l c step p f = record {
  hart = f.hart;
  after = step ∷ f.after;
  between = f.between;
  before = f.before;
  place = ap (λ (q : List PersistenceStep). step ∷ q) f.place;
  count = f.count;
}

none_or_more : (l h c : ℕ) (step : PersistenceStep) (p : List PersistenceStep) →
    (c ≡ 0) ⊎ Cleaned l h c p → (c ≡ 0) ⊎ Cleaned l h c (step ∷ p)
none_or_more l h c step p (inl none) = inl none
none_or_more l h c step p (inr f) = inr (cleaned_more l h c step p f)

fenced_or_more : (l c : ℕ) (step : PersistenceStep) (p : List PersistenceStep) →
    (c ≡ 0) ⊎ Fenced l c p → (c ≡ 0) ⊎ Fenced l c (step ∷ p)
fenced_or_more l c step p (inl none) = inl none
fenced_or_more l c step p (inr f) = inr (fenced_more l c step p f)

cleaned_reached : (l h : ℕ) (p : List PersistenceStep) → (cleaned l h p ≡ 0) ⊎ Cleaned l h (cleaned l h p) p
cleaned_reached l h [] = inl refl
cleaned_reached l h (Store m o w v ∷ p) = none_or_more l h _ _ p (cleaned_reached l h p)
cleaned_reached l h (Clean g m ∷ p) = elim (cases_Bool ((g == h) && (m == l))) [
  | inl same ↦
      let hart : g ≡ h = grind (arith, nat_tests, same) in
      let line : m ≡ l = grind (arith, nat_tests, same) in
      inr (record { between = []; before = p; place = rw (hart, line) refl; count = rw same refl })
  | inr other ↦ rw other (none_or_more l h _ _ p (cleaned_reached l h p))
]
cleaned_reached l h (Fence g ∷ p) = none_or_more l h _ _ p (cleaned_reached l h p)
cleaned_reached l h (Evict m ∷ p) = none_or_more l h _ _ p (cleaned_reached l h p)

fenced_now : (l h c : ℕ) (p : List PersistenceStep) →
    (c ≡ 0) ⊎ Cleaned l h c p → (c ≡ 0) ⊎ Fenced l c (Fence h ∷ p)
fenced_now l h c p (inl none) = inl none
fenced_now l h c p (inr f) = inr (record {
  hart = h;
  after = [];
  between = f.between;
  before = f.before;
  place = ap (λ (q : List PersistenceStep). Fence h ∷ q) f.place;
  count = f.count;
})

greater_of : (m n : ℕ) → (max m n ≡ m) ⊎ (max m n ≡ n)
greater_of m n = grind (arith, nat_tests)

floor_reached : (l : ℕ) (p : List PersistenceStep) → (floor l p ≡ 0) ⊎ Fenced l (floor l p) p
floor_reached l [] = inl refl
floor_reached l (Store m o w v ∷ p) = fenced_or_more l _ _ p (floor_reached l p)
floor_reached l (Clean g m ∷ p) = fenced_or_more l _ _ p (floor_reached l p)
floor_reached l (Fence h ∷ p) = elim (greater_of (floor l p) (cleaned l h p)) [
  | inl same ↦ rw same (fenced_or_more l _ _ p (floor_reached l p))
  | inr now ↦ rw now (fenced_now l h _ p (cleaned_reached l h p))
]
floor_reached l (Evict m ∷ p) = fenced_or_more l _ _ p (floor_reached l p)

pub fenced_is_floor : (l : ℕ) (p : List PersistenceStep) → IsFloor l p (floor l p)
fenced_is_floor l p = record { reached = floor_reached l p; greatest = λ d f. fenced_le_floor l p d f }
