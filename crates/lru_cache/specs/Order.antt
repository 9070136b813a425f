-- The orders in which a cache keeps its lines: by recency in each of eight sets, by first store, and by mark.
use Rattle.std.specs.Prelude.{◌≡◌, ℕ, ◌%◌, ◌++◌, if◌then◌else◌, Option, None, List, [], ◌∷◌, length, map, sum_by, replicate, slice_index_or, slice_set}
use Rattle.std.specs.Option.{option_or}
use Rattle.index_list.specs.Lists.{has, without, last, IsDistinct}

-- how many lines there are; the resident lines of each set, the most recently used first; the dirty lines, by first
-- store; and the lines of each of eight lists of marks, by first mark
pub record LineOrders : Type 0 where
  pub lines : ℕ
  pub recency : List (List ℕ)
  pub dirty : List ℕ
  pub marked : List (List ℕ)

-- the set of a line
abbrev pub set_of : ℕ → ℕ
set_of line = line % 8

-- the resident lines of a set, the most recently used first
abbrev pub recent_in : LineOrders → ℕ → List ℕ
recent_in o set = slice_index_or o.recency set []

-- the lines marked in list k
abbrev pub marked_in : LineOrders → ℕ → List ℕ
marked_in o k = slice_index_or o.marked k []

-- how many lines are resident
abbrev pub resident_count : LineOrders → ℕ
resident_count o = sum_by length o.recency

-- the least recently used line of the first set that has one
abbrev pub oldest_of_first : List (List ℕ) → Option ℕ
oldest_of_first [] = None
oldest_of_first (lines ∷ sets) = option_or (last lines) (oldest_of_first sets)

-- nothing stands in any order
abbrev pub empty_orders : ℕ → LineOrders
empty_orders lines = record { lines = lines; recency = replicate 8 []; dirty = []; marked = replicate 8 [] }

-- the list with the line at its end, unless it is there already
abbrev pub list_with : ℕ → List ℕ → List ℕ
list_with line xs = if has line xs then xs else xs ++ line ∷ []

-- the line is the most recently used of its set
abbrev pub order_after_use : ℕ → LineOrders → LineOrders
order_after_use line o = record o { recency = slice_set o.recency (set_of line) (line ∷ without line (recent_in o (set_of line))) }

-- the line isn't resident
abbrev pub order_after_drop : ℕ → LineOrders → LineOrders
order_after_drop line o = record o { recency = slice_set o.recency (set_of line) (without line (recent_in o (set_of line))) }

-- the line is dirty
abbrev pub order_after_store : ℕ → LineOrders → LineOrders
order_after_store line o = record o { dirty = list_with line o.dirty }

-- the line is neither dirty nor marked
abbrev pub order_after_write_back : ℕ → LineOrders → LineOrders
order_after_write_back line o = record o { dirty = without line o.dirty; marked = map (without line) o.marked }

-- the line is marked in list k
abbrev pub order_after_mark : ℕ → ℕ → LineOrders → LineOrders
order_after_mark k line o = record o { marked = slice_set o.marked k (list_with line (marked_in o k)) }

-- eight sets and eight lists of marks, and no line twice in any order
pub record IsOrdered (o : LineOrders) : Type 0 where
  pub sets : length o.recency ≡ 8
  pub marks : length o.marked ≡ 8
  pub recent_once : (set : ℕ) → IsDistinct (recent_in o set)
  pub dirty_once : IsDistinct o.dirty
  pub marked_once : (k : ℕ) → IsDistinct (marked_in o k)
