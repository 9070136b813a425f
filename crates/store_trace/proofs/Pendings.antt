-- What is written back, by pending cleans and without them.
use Rattle.std.proofs.Common.{◌≡◌, ℕ, List, [], ◌∷◌, false, ◌==◌, ◌&&◌, ◌||◌, arith, refl}
use Rattle.std.specs.Prelude.{if◌then◌else◌}
use Rattle.std.proofs.lemmas.Bool.Decides.{nat_tests}
use Rattle.store_trace.proofs.Bounds.{cleaned_le_stores}
use Rattle.store_trace.specs.WrittenBack.{write_back_state, written_back, is_pending, is_dirty}
use Rattle.store_trace.specs.declared.crash_model.step.PersistenceStep.{PersistenceStep}
use Rattle.store_trace.specs.declared.crash_model.step.PersistenceStep.TheVariants.{Store, Clean, Fence, Evict}

pub back_agrees : (l : ℕ) (p : List PersistenceStep) →
    ((write_back_state l p).count ≡ written_back l p) × ((h : ℕ) → (write_back_state l p).pends h ≡ is_pending l h p)
back_agrees l [] = (refl, λ h. refl)
back_agrees l (Store m o w v ∷ p) = back_agrees l p
back_agrees l (Clean g m ∷ p) =
    let i = back_agrees l p in
    (i.0, λ h. grind (arith, nat_tests, i.0, i.1 h, cleaned_le_stores l h p))
back_agrees l (Fence g ∷ p) =
    let i = back_agrees l p in (
      grind (arith, nat_tests, i.0, i.1 g),
      λ h. grind (arith, nat_tests, i.0, i.1 g, i.1 h, cleaned_le_stores l h p),
    )
back_agrees l (Evict m ∷ p) =
    let i = back_agrees l p in (
      grind (arith, nat_tests, i.0),
      λ h. grind (arith, nat_tests, i.0, i.1 h, cleaned_le_stores l h p),
    )

pub back_count : (l : ℕ) (p : List PersistenceStep) → (write_back_state l p).count ≡ written_back l p
back_count l p = (back_agrees l p).0

pub back_pends : (l h : ℕ) (p : List PersistenceStep) → (write_back_state l p).pends h ≡ is_pending l h p
back_pends l h p = (back_agrees l p).1 h

pub pends_clean : (l h g m : ℕ) (p : List PersistenceStep) →
    is_pending l h (Clean g m ∷ p) ≡ (((g == h) && ((m == l) && is_dirty l p)) || is_pending l h p)
pends_clean l h g m p = grind (arith, nat_tests, cleaned_le_stores l h p)

pub pends_fence : (l h g : ℕ) (p : List PersistenceStep) →
    is_pending l h (Fence g ∷ p) ≡ (if is_pending l g p then false else is_pending l h p)
pends_fence l h g p = grind (arith, nat_tests, cleaned_le_stores l h p)

pub pends_evict : (l h m : ℕ) (p : List PersistenceStep) →
    is_pending l h (Evict m ∷ p) ≡ (if m == l then false else is_pending l h p)
pends_evict l h m p = grind (arith, nat_tests, cleaned_le_stores l h p)
