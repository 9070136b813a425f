-- A sweep over moments: what workers found in the moments that they claimed, and what all moments come to.
use Rattle.std.specs.Prelude.{◌≡◌, ℕ, ◌<◌, ◌≤◌, ◌⊎◌, List, [], All, Option, Some, None, nat_le, if◌then◌else◌}
use Rattle.std.specs.List.{Contains}

-- the lesser of the best so far and this moment
abbrev pub better : {B : Type 0} → Option (ℕ × B) → ℕ → B → Option (ℕ × B)
better None moment bad = Some (moment, bad)
better (Some found) moment bad = if nat_le found.0 moment then Some found else Some (moment, bad)

-- the lesser of two
abbrev pub best_of : {B : Type 0} → Option (ℕ × B) → Option (ℕ × B) → Option (ℕ × B)
best_of best None = best
best_of best (Some found) = better best found.0 found.1

module _ {B : Type 0} (passes : ℕ → Type 0) (fails : ℕ → B → Type 0) (moments : ℕ) where
  -- the least of these bad moments, with what it was found to be
  abbrev pub IsBest : List ℕ → Option (ℕ × B) → Type 0
  IsBest bad None = bad ≡ []
  IsBest bad (Some found) = Contains bad found.0 × All (λ m. found.0 ≤ m) bad × (found.0 < moments) × fails found.0 found.1

  -- of each moment claimed it was found that it passes, or is bad, or a lesser bad one was seen
  pub record IsTally (claimed bad found : List ℕ) (best : Option (ℕ × B)) : Type 0 where
    pub judged : (m : ℕ) → Contains claimed m → passes m ⊎ (Contains bad m ⊎ ((word : ℕ) × Contains found word × (word < m)))
    pub below : All (λ m. m < moments) claimed
    pub least : IsBest bad best

  -- all moments pass; or this is the least that doesn't, with what it was found to be
  abbrev pub IsSwept : Option (ℕ × B) → Type 0
  IsSwept None = (m : ℕ) → m < moments → passes m
  IsSwept (Some found) = (found.0 < moments) × fails found.0 found.1 × ((m : ℕ) → m < found.0 → passes m)
