-- A graph of states by their numbers, and from which of them one can come to an end.
-- Source: Clarke, Grumberg, Peled, Model Checking, 1999, chapters 3 and 4: AG EF, found by marking back from where it holds.
use Rattle.std.specs.Prelude.{◌≡◌, ◌<◌, ℕ, suc, Bool, true, false, List, [], ◌∷◌, Some, length, slice_get, slice_index_or, slice_set}

-- by a request of this hart from state n one comes to state m: `next` has of each state those to which the requests of harts 0 to 7 lead
pub record IsWay (next : List (List ℕ)) (n hart m : ℕ) : Type 0 where
  pub to : List ℕ
  pub found : slice_get next n ≡ Some to
  pub few : hart < 8
  pub is : m ≡ slice_index_or to hart 0

-- ways lead to states that are there
abbrev pub AreInside : List (List ℕ) → Type 0
AreInside next = (n hart m : ℕ) → IsWay next n hart m → m < length next

-- state n is marked
abbrev pub IsMarked : List Bool → ℕ → Type 0
IsMarked marks n = slice_get marks n ≡ Some true

-- one can come from the state to one of these ends
pub data LeadsOut (next : List (List ℕ)) (ends : List Bool) : ℕ → Type 0 where
  here : (n : ℕ) → IsMarked ends n → LeadsOut next ends n
  further : (n hart m : ℕ) → IsWay next n hart m → LeadsOut next ends m → LeadsOut next ends n

-- the state is marked if a way leads from it to a marked one
abbrev pub IsMarkedBack : List (List ℕ) → List Bool → ℕ → Type 0
IsMarkedBack next marks n = (hart m : ℕ) → IsWay next n hart m → IsMarked marks m → IsMarked marks n

-- so is each
abbrev pub AreMarkedBack : List (List ℕ) → List Bool → Type 0
AreMarkedBack next marks = (n : ℕ) → IsMarkedBack next marks n

-- marks that were there are there
abbrev pub AreKeptMarks : List Bool → List Bool → Type 0
AreKeptMarks old new = (n : ℕ) → IsMarked old n → IsMarked new n

-- how many states aren't marked
abbrev pub unmarked : List Bool → ℕ
unmarked [] = 0
unmarked (true ∷ marks) = unmarked marks
unmarked (false ∷ marks) = suc (unmarked marks)

-- state n was marked, as a way leads from it to a marked one
pub record IsOneMarked (next : List (List ℕ)) (old new : List Bool) (n : ℕ) : Type 0 where
  pub hart : ℕ
  pub target : ℕ
  pub way : IsWay next n hart target
  pub marked : IsMarked old target
  pub was : slice_get old n ≡ Some false
  pub now : new ≡ slice_set old n true

-- the state to which these requests lead from state n
abbrev pub walked : List (List ℕ) → ℕ → List ℕ → ℕ
walked next n [] = n
walked next n (hart ∷ requests) = walked next (slice_index_or (slice_index_or next n []) hart 0) requests
