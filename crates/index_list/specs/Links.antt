-- How next and previous numbers spell a list: as a ring through one more number, its end, which stands in no list.
-- A node outside of the list is its own next and its own previous, or has no numbers yet.
use Rattle.std.specs.Prelude.{◌≡◌, ℕ, zero, suc, ◌+◌, ◌≤◌, ◌<◌, ◌==◌, if◌then◌else◌, List, [], ◌∷◌, length, slice_index, slice_index_or}
use Rattle.index_list.specs.Lists.{IsDistinct, AllBelow, NodeList, IsSound}

-- what follows i on the way from p along the list to e
abbrev pub next_on : ℕ → ℕ → List ℕ → ℕ → ℕ
next_on e p [] i = if i == p then e else i
next_on e p (x ∷ xs) i = if i == p then x else next_on e x xs i

-- what stands before i on that way
abbrev pub prev_on : ℕ → ℕ → List ℕ → ℕ → ℕ
prev_on e p [] i = if i == e then p else i
prev_on e p (x ∷ xs) i = if i == x then p else prev_on e x xs i

-- the numbers that next leads to from p on, up to e, at most so many
abbrev pub walk : List ℕ → ℕ → ℕ → ℕ → List ℕ
walk next e p zero = []
walk next e p (suc most) =
    if slice_index next p == e then [] else slice_index next p ∷ walk next e (slice_index next p) most

-- the list that the next numbers spell, up to the end e
abbrev pub spelled : ℕ → List ℕ → List ℕ
spelled e next = walk next e e e

-- next and prev spell the list, among n nodes and with the end n
pub record IsRing (n : ℕ) (next prev items : List ℕ) : Type 0 where
  pub next_len : length next ≡ n + 1
  pub prev_len : length prev ≡ n + 1
  pub distinct : IsDistinct items
  pub below : AllBelow n items
  pub next_is : (j : ℕ) → j ≤ n → slice_index next j ≡ next_on n n items j
  pub prev_is : (j : ℕ) → j ≤ n → slice_index prev j ≡ prev_on n n items j

-- next and prev spell the list, among the nodes below the end, and there is room for the numbers of all nodes
pub record IsLinked (nodes end : ℕ) (next prev items : List ℕ) (next_capacity prev_capacity : ℕ) : Type 0 where
  pub ring : IsRing end next prev items
  pub few : end ≤ nodes
  pub next_room : next_capacity ≡ nodes + 1
  pub prev_room : prev_capacity ≡ nodes + 1

-- the lists of that many rings
abbrev pub lists_of : List NodeList → List (List ℕ)
lists_of [] = []
lists_of (r ∷ rs) = r.items ∷ lists_of rs

-- as many rings as there are lists, each over the same nodes
pub record IsArena (count n : ℕ) (rings : List NodeList) : Type 0 where
  pub counted : length rings ≡ count
  pub same_nodes : (k : ℕ) (d : NodeList) → k < length rings → (slice_index_or rings k d).nodes ≡ n
  pub sound : IsSound count (record { nodes = n; lists = lists_of rings })
