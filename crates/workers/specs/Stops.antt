-- A stop word and its seats, as the contracts of their calls see them.
use Rattle.std.specs.Prelude.{◌≡◌, ◌⊎◌, ℕ, Bool, true, false, List, []}
use Rattle.std.specs.List.{Contains, flat_map}
use Rattle.atomic_table.specs.Seated.{TableId}

-- which word it is, and how many seats it has
pub record Word : Type 0 where
  pub table : TableId
  pub seats : ℕ

-- which word a seat belongs to, whether the seat raised it, and whether each of the seat's looks found it raised, in turn
pub record Sitting : Type 0 where
  pub table : TableId
  pub raised : Bool
  pub found : List Bool

-- a seat that has done nothing
abbrev pub fresh : TableId → Sitting
fresh table = record { table = table; raised = false; found = [] }

-- the seat raised the word, or saw it raised
abbrev pub HasSeen : Sitting → Type 0
HasSeen s = (s.raised ≡ true) ⊎ Contains s.found true

-- what all looks of these seats found
abbrev pub all_found : List Sitting → List Bool
all_found = flat_map (λ s. s.found)
