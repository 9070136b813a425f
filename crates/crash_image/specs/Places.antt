-- Where a line stands, or would stand, among the entries of a cut, whose lines go upwards.
use Rattle.std.specs.Prelude.{ℕ, ◌<◌, ◌≤◌, List, length, slice_index_or}

-- the entries before this place are of lower lines than l, and those from it on are not
pub record IsPlace (entries : List (ℕ × ℕ)) (l at : ℕ) : Type 0 where
  pub within : at ≤ length entries
  pub below : (i : ℕ) (d : ℕ × ℕ) → i < at → (slice_index_or entries i d).0 < l
  pub above : (i : ℕ) (d : ℕ × ℕ) → at ≤ i → i < length entries → l ≤ (slice_index_or entries i d).0
