-- The bounds of the stored lines.
use Rattle.std.specs.Prelude.{◌≡◌, ℕ, ◌+◌, ◌-◌, ◌*◌, ◌/◌, ◌%◌, ◌<◌, ◌≤◌, List, [], ◌∷◌, length, map, slice_index_or}
use Rattle.store_trace.specs.Cut.{stored_lines}
use Rattle.store_trace.specs.Floor.{floor}
use Rattle.store_trace.specs.Stores.{stores}
use Rattle.store_trace.specs.declared.crash_model.step.PersistenceStep.{PersistenceStep}
use Rattle.crash_image.specs.declared.bounds.LineBounds.{LineBounds}

-- between which numbers of its stores line l stands
abbrev pub bounds_at : List PersistenceStep → ℕ → LineBounds
bounds_at p l = record { line = l; floor = floor l p; stores = stores l p }

-- the bounds of the stored lines, upwards
abbrev pub stored_bounds : List PersistenceStep → List LineBounds
stored_bounds p = map (λ l. bounds_at p l) (stored_lines p)

-- the floor of a line is at most its number of stores
abbrev pub IsOrdered : LineBounds → Type 0
IsOrdered b = b.floor ≤ b.stores

-- how many numbers lie within the bounds
abbrev pub numbers_of : LineBounds → ℕ
numbers_of b = b.stores - b.floor + 1

-- in how many ways lines with these bounds can stand together
abbrev pub product_of : List LineBounds → ℕ
product_of [] = 1
product_of (b ∷ bs) = numbers_of b * product_of bs

-- The cut of number n of lines with these bounds. The first line changes slowest, once for all the others.
abbrev pub cut_from : List LineBounds → ℕ → List (ℕ × ℕ)
cut_from [] n = []
cut_from (b ∷ bs) n = (b.line, b.floor + n / product_of bs) ∷ cut_from bs (n % product_of bs)

-- the entry is of this line, with a number within its bounds
abbrev pub Allows : LineBounds → ℕ × ℕ → Type 0
Allows b entry = (entry.0 ≡ b.line) × (b.floor ≤ entry.1) × (entry.1 ≤ b.stores)

-- the entries are of just these lines, each within its bounds
pub record Fits (bs : List LineBounds) (entries : List (ℕ × ℕ)) : Type 0 where
  pub lines : length bs ≡ length entries
  pub each : (i : ℕ) (b : LineBounds) (e : ℕ × ℕ) → i < length bs → Allows (slice_index_or bs i b) (slice_index_or entries i e)
