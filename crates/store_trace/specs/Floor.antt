-- The floor of a line: how many of its first stores are in the medium for certain.
-- A fence completes the cleans that its own hart made before it, and no others: this model's own rule.
use Rattle.std.specs.Prelude.{◌≡◌, ℕ, ◌≤◌, ◌==◌, ◌&&◌, ◌⊎◌, List, [], ◌∷◌, ◌++◌, if◌then◌else◌, max}
use Rattle.store_trace.specs.Stores.{stores}
use Rattle.store_trace.specs.declared.crash_model.step.PersistenceStep.{PersistenceStep}
use Rattle.store_trace.specs.declared.crash_model.step.PersistenceStep.TheVariants.{Store, Clean, Fence, Evict}

-- somewhere in the list hart `hart` cleaned line l with exactly c stores to l before that, and made a fence later
pub record Fenced (l c : ℕ) (p : List PersistenceStep) : Type 0 where
  pub hart : ℕ
  pub after : List PersistenceStep
  pub between : List PersistenceStep
  pub before : List PersistenceStep
  pub place : p ≡ after ++ (Fence hart ∷ (between ++ (Clean hart l ∷ before)))
  pub count : stores l before ≡ c

-- c is the greatest number of stores before a clean of line l that a fence completed, else 0
pub record IsFloor (l : ℕ) (p : List PersistenceStep) (c : ℕ) : Type 0 where
  pub reached : (c ≡ 0) ⊎ Fenced l c p
  pub greatest : (d : ℕ) → Fenced l d p → d ≤ c

-- the number of stores of line l before the last clean of l by hart h, else 0
abbrev pub cleaned : ℕ → ℕ → List PersistenceStep → ℕ
cleaned l h [] = 0
cleaned l h (Store m offset width value ∷ p) = cleaned l h p
cleaned l h (Clean g m ∷ p) = if (g == h) && (m == l) then stores l p else cleaned l h p
cleaned l h (Fence g ∷ p) = cleaned l h p
cleaned l h (Evict m ∷ p) = cleaned l h p

-- the floor of line l: each fence raises it to what its hart cleaned
abbrev pub floor : ℕ → List PersistenceStep → ℕ
floor l [] = 0
floor l (Store m offset width value ∷ p) = floor l p
floor l (Clean h m ∷ p) = floor l p
floor l (Fence h ∷ p) = max (floor l p) (cleaned l h p)
floor l (Evict m ∷ p) = floor l p
