-- A desk and its seats, as the contracts of their calls see them.
use Rattle.std.specs.Prelude.{◌≡◌, ℕ, ◌+◌, ◌≤◌, ◌==◌, Bool, false, List, [], ◌∷◌, All, Option, Some, None, if◌then◌else◌}
use Rattle.std.specs.List.{Contains, flat_map}
use Rattle.atomic_table.specs.Seated.{TableId}

-- which desk it is, and of how many moments
pub record Name : Type 0 where
  pub table : TableId
  pub moments : ℕ

pub record Desk : Type 0 where
  pub name : Name
  pub workers : ℕ

-- what a seat has had: the moments that it claimed, in turn; whether it has had a None; the moments that it reported bad,
-- in turn; and the values that its claims found in the least word, in turn
pub record Sitting : Type 0 where
  pub desk : Name
  pub claimed : List ℕ
  pub ended : Bool
  pub bad : List ℕ
  pub found : List ℕ

-- a seat that has had nothing
abbrev pub fresh : Name → Sitting
fresh name = record { desk = name; claimed = []; ended = false; bad = []; found = [] }

-- what the least word holds where no moment was reported bad: the greatest u64
abbrev pub nothing : ℕ
nothing = 18446744073709551615

-- the moment that a value of the least word names
abbrev pub moment_of : ℕ → Option ℕ
moment_of word = if word == nothing then None else Some word

-- the value of the least word where this is the least bad moment
abbrev pub word_of : Option ℕ → ℕ
word_of None = nothing
word_of (Some moment) = moment

-- what the last of these values names; None where there is none
abbrev pub last_moment : List ℕ → Option ℕ
last_moment [] = None
last_moment (x ∷ []) = moment_of x
last_moment (x ∷ y ∷ ys) = last_moment (y ∷ ys)

-- the least of these moments; None where there is none
abbrev pub IsLeastOf : List ℕ → Option ℕ → Type 0
IsLeastOf xs None = xs ≡ []
IsLeastOf xs (Some x) = Contains xs x × All (λ y. x ≤ y) xs

-- the lists of all seats, one after the other
abbrev pub all_claimed : List Sitting → List ℕ
all_claimed = flat_map (λ s. s.claimed)

abbrev pub all_bad : List Sitting → List ℕ
all_bad = flat_map (λ s. s.bad)

abbrev pub all_found : List Sitting → List ℕ
all_found = flat_map (λ s. s.found)

-- how many of the seats have had a None
abbrev pub ended_count : List Sitting → ℕ
ended_count [] = 0
ended_count (s ∷ ss) = (if s.ended then 1 else 0) + ended_count ss
