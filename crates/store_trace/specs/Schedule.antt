-- The steps that explain a cut: the recorded ones of the harts, and evictions of its own.
use Rattle.std.specs.Prelude.{ℕ, ◌+◌, ◌==◌, List, [], ◌∷◌, if◌then◌else◌}
use Rattle.store_trace.specs.Stores.{stores}
use Rattle.store_trace.specs.declared.crash_model.step.PersistenceStep.{PersistenceStep}
use Rattle.store_trace.specs.declared.crash_model.step.PersistenceStep.TheVariants.{Store, Clean, Fence, Evict}

-- the steps of the harts alone
abbrev pub without_evictions : List PersistenceStep → List PersistenceStep
without_evictions [] = []
without_evictions (Store m offset width value ∷ p) = Store m offset width value ∷ without_evictions p
without_evictions (Clean h m ∷ p) = Clean h m ∷ without_evictions p
without_evictions (Fence h ∷ p) = Fence h ∷ without_evictions p
without_evictions (Evict m ∷ p) = without_evictions p

-- The schedule of the cut in which each line l stands after its first `k l` stores: none of the recorded
-- evictions, and for each line whose number isn't 0 one eviction, right after the line's store of that number.
abbrev pub explained : (ℕ → ℕ) → List PersistenceStep → List PersistenceStep
explained k [] = []
explained k (Store m offset width value ∷ p) =
    if (stores m p + 1) == k m
    then Evict m ∷ (Store m offset width value ∷ explained k p)
    else Store m offset width value ∷ explained k p
explained k (Clean h m ∷ p) = Clean h m ∷ explained k p
explained k (Fence h ∷ p) = Fence h ∷ explained k p
explained k (Evict m ∷ p) = explained k p
