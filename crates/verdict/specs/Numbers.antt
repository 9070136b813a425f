-- A cut in memory, by line: its number of stores, or 0 where the line stands at its floor. A line above its floor is raised.
use Rattle.std.specs.Prelude.{◌≡◌, ◌≢◌, ℕ, ◌<◌, Bool, true, false, ◌||◌, ◌==◌, if◌then◌else◌, List, [], ◌∷◌, length, slice_index, slice_index_or}
use Rattle.std.specs.List.{AllByRecursion}

-- whether a line stands in the list
abbrev pub has : ℕ → List ℕ → Bool
has l [] = false
has l (x ∷ xs) = (x == l) || has l xs

-- the cut of a table of numbers
abbrev pub number_over : (ℕ → ℕ) → List ℕ → ℕ → ℕ
number_over low numbers l = if slice_index numbers l == 0 then low l else slice_index numbers l

-- each number in the table is above the floor of its line
abbrev pub AreAbove : (ℕ → ℕ) → List ℕ → Type 0
AreAbove low numbers = (l : ℕ) → slice_index numbers l ≢ 0 → low l < slice_index numbers l

-- the list has each line that the table raises
pub record AreListed (numbers lines : List ℕ) : Type 0 where
  pub listed : (l : ℕ) → slice_index numbers l ≢ 0 → has l lines ≡ true
  pub below : AllByRecursion (λ l. l < length numbers) lines

-- whether a line is flagged
abbrev pub is_flagged : ℕ → List Bool → Bool
is_flagged l flags = slice_index_or flags l false

-- the list has each line that is flagged
pub record AreInList (flags : List Bool) (lines : List ℕ) : Type 0 where
  pub listed : (l : ℕ) → is_flagged l flags ≡ true → has l lines ≡ true
  pub below : AllByRecursion (λ l. l < length flags) lines
