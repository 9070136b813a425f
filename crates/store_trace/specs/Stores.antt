-- The stores of a line. Lists of steps stand with the newest step first.
-- Source: RISC-V CMO specification 1.0, chapter 2 (stores are made in a cache and reach memory by write-backs).
use Rattle.std.specs.Prelude.{ℕ, ◌+◌, ◌≤◌, ◌==◌, List, [], ◌∷◌, ◌++◌, if◌then◌else◌}
use Rattle.store_trace.specs.declared.crash_model.step.PersistenceStep.{PersistenceStep}
use Rattle.store_trace.specs.declared.crash_model.step.PersistenceStep.TheVariants.{Store, Clean, Fence, Evict}

-- what one store writes into its line: the low `width` bytes of `value`, from the place `offset` on
pub record Write : Type 0 where
  pub offset : ℕ
  pub width : ℕ
  pub value : ℕ

-- a store of at most eight bytes lies in its line of 64 bytes
abbrev pub IsInLine : PersistenceStep → Type 0
IsInLine (Store line offset width value) = (width ≤ 8) × (offset + width ≤ 64)
IsInLine (Clean hart line) = Unit {0}
IsInLine (Fence hart) = Unit {0}
IsInLine (Evict line) = Unit {0}

-- the stores of line l, in the order in which they were made
abbrev pub writes : ℕ → List PersistenceStep → List Write
writes l [] = []
writes l (Store m offset width value ∷ p) =
    if m == l then writes l p ++ record { offset = offset; width = width; value = value } ∷ [] else writes l p
writes l (Clean h m ∷ p) = writes l p
writes l (Fence h ∷ p) = writes l p
writes l (Evict m ∷ p) = writes l p

-- the number of stores of line l
abbrev pub stores : ℕ → List PersistenceStep → ℕ
stores l [] = 0
stores l (Store m offset width value ∷ p) = if m == l then stores l p + 1 else stores l p
stores l (Clean h m ∷ p) = stores l p
stores l (Fence h ∷ p) = stores l p
stores l (Evict m ∷ p) = stores l p
