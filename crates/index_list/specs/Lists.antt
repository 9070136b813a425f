-- Lists of node numbers, and the K lists of an arena. A node is a number below the count of nodes.
use Rattle.std.specs.Prelude.{◌≡◌, ℕ, ◌≤◌, ◌<◌, Bool, true, false, ◌||◌, ◌==◌, if◌then◌else◌, Option, Some, None, List, [], ◌∷◌, length, slice_index_or, slice_set}

-- whether i stands in the list
abbrev pub has : ℕ → List ℕ → Bool
has i [] = false
has i (x ∷ xs) = (i == x) || has i xs

-- the list with its first i taken out
abbrev pub without : ℕ → List ℕ → List ℕ
without i [] = []
without i (x ∷ xs) = if i == x then xs else x ∷ without i xs

-- the first number of the list, if there is one
abbrev pub first : List ℕ → Option ℕ
first [] = None
first (x ∷ xs) = Some x

-- where the way from p along the list ends
abbrev pub end_of : ℕ → List ℕ → ℕ
end_of p [] = p
end_of p (x ∷ xs) = end_of x xs

-- the last number of the list, if there is one
abbrev pub last : List ℕ → Option ℕ
last [] = None
last (x ∷ xs) = Some (end_of x xs)

-- the number right after i, if i isn't the last
abbrev pub after : ℕ → List ℕ → Option ℕ
after i [] = None
after i (x ∷ xs) = if i == x then first xs else after i xs

-- no number stands in the list twice
abbrev pub IsDistinct : List ℕ → Type 0
IsDistinct [] = Unit {0}
IsDistinct (x ∷ xs) = (has x xs ≡ false) × IsDistinct xs

-- each number in the list is below n
abbrev pub AllBelow : ℕ → List ℕ → Type 0
AllBelow n [] = Unit {0}
AllBelow n (x ∷ xs) = (x < n) × AllBelow n xs

-- one list, and how many nodes there are
pub record NodeList : Type 0 where
  pub nodes : ℕ
  pub items : List ℕ

-- the lists of an arena, and how many nodes there are
pub record Lists : Type 0 where
  pub nodes : ℕ
  pub lists : List (List ℕ)

-- list k
abbrev pub list_of : Lists → ℕ → List ℕ
list_of a k = slice_index_or a.lists k []

-- xs in the place of list k, and all else as it is
abbrev pub with_list : Lists → ℕ → List ℕ → Lists
with_list a k xs = record a { lists = slice_set a.lists k xs }

-- what holds of every arena of that many lists: none has a repeat, a number that isn't a node, or more numbers than there are nodes
pub record IsSound (count : ℕ) (a : Lists) : Type 0 where
  pub counted : length a.lists ≡ count
  pub distinct : (k : ℕ) → IsDistinct (list_of a k)
  pub below : (k i : ℕ) → has i (list_of a k) ≡ true → i < a.nodes
  pub short : (k : ℕ) → length (list_of a k) ≤ a.nodes
