-- The floor is at most what was written back, and that is at most the number of stores.
use Rattle.std.proofs.Common.{ℕ, ◌≤◌, List, [], ◌∷◌, arith}
use Rattle.std.proofs.lemmas.Bool.Decides.{nat_tests}
use Rattle.store_trace.specs.Floor.{floor, cleaned}
use Rattle.store_trace.specs.Stores.{stores}
use Rattle.store_trace.specs.WrittenBack.{written_back}
use Rattle.store_trace.specs.declared.crash_model.step.PersistenceStep.{PersistenceStep}
use Rattle.store_trace.specs.declared.crash_model.step.PersistenceStep.TheVariants.{Store, Clean, Fence, Evict}

pub cleaned_le_stores : (l h : ℕ) (p : List PersistenceStep) → cleaned l h p ≤ stores l p
cleaned_le_stores l h [] = omega arith
cleaned_le_stores l h (Store m o w v ∷ p) = grind (arith, nat_tests, cleaned_le_stores l h p)
cleaned_le_stores l h (Clean g m ∷ p) = grind (arith, nat_tests, cleaned_le_stores l h p)
cleaned_le_stores l h (Fence g ∷ p) = cleaned_le_stores l h p
cleaned_le_stores l h (Evict m ∷ p) = cleaned_le_stores l h p

pub written_back_le_stores : (l : ℕ) (p : List PersistenceStep) → written_back l p ≤ stores l p
written_back_le_stores l [] = omega arith
written_back_le_stores l (Store m o w v ∷ p) = grind (arith, nat_tests, written_back_le_stores l p)
written_back_le_stores l (Clean h m ∷ p) = written_back_le_stores l p
written_back_le_stores l (Fence h ∷ p) = grind (arith, nat_tests, written_back_le_stores l p)
written_back_le_stores l (Evict m ∷ p) = grind (arith, nat_tests, written_back_le_stores l p)

pub floor_le_written_back : (l : ℕ) (p : List PersistenceStep) → floor l p ≤ written_back l p
floor_le_written_back l [] = omega arith
floor_le_written_back l (Store m o w v ∷ p) = floor_le_written_back l p
floor_le_written_back l (Clean h m ∷ p) = floor_le_written_back l p
floor_le_written_back l (Fence h ∷ p) =
    grind (arith, nat_tests, floor_le_written_back l p, written_back_le_stores l p, cleaned_le_stores l h p)
floor_le_written_back l (Evict m ∷ p) = grind (arith, nat_tests, floor_le_written_back l p, written_back_le_stores l p)

pub floor_le_stores : (l : ℕ) (p : List PersistenceStep) → floor l p ≤ stores l p
floor_le_stores l p = omega (arith, floor_le_written_back l p, written_back_le_stores l p)
