-- What a cache's slots say of its lines: a line has what its slot has, and stands where its slot stands.
use Rattle.std.specs.Prelude.{◌≡◌, ℕ, ◌+◌, Bool, false, List, ◌∷◌, length, map, min, slice_index_or, slice_set}
use Rattle.std.specs.List.{slice_get}
use Rattle.index_list.specs.Lists.{without}
use Rattle.lru_cache.specs.Order.{LineOrders, recent_in}
use Rattle.lru_cache.specs.Cache.{CacheView, HasResident}
use Rattle.lru_cache.specs.SlotMap.{SlotMap, IsSlotMap, line_in}

-- the slot is the most recently used of a set
abbrev pub with_used : ℕ → ℕ → LineOrders → LineOrders
with_used set slot o = record o { recency = slice_set o.recency set (slot ∷ without slot (recent_in o set)) }

-- the slot stands in the set no more
abbrev pub with_dropped : ℕ → ℕ → LineOrders → LineOrders
with_dropped set slot o = record o { recency = slice_set o.recency set (without slot (recent_in o set)) }

-- the flag of a slot
abbrev pub flag_at : List Bool → ℕ → Bool
flag_at flags slot = slice_index_or flags slot false

-- the orders of lines, by those of their slots
unfoldable pub orders_named : SlotMap → LineOrders → LineOrders
orders_named s o = record {
  lines = length s.slots;
  recency = map (map (line_in s)) o.recency;
  dirty = map (line_in s) o.dirty;
  marked = map (map (line_in s)) o.marked;
}

-- the cache, by its slots
unfoldable pub cache_of : ℕ → SlotMap → List (List ℕ) → List Bool → LineOrders → CacheView
cache_of capacity s copies flags o = record {
  capacity = capacity;
  copies = map (slice_get copies) s.slots;
  leaving = map (flag_at flags) s.slots;
  orders = orders_named s o;
}

-- what holds of the slots of every cache
pub record IsInSlots (capacity resident : ℕ) (s : SlotMap) (copies : List (List ℕ)) (flags : List Bool) (o : LineOrders) : Type 0 where
  pub slots : IsSlotMap s
  pub copied : length copies ≡ length s.lines
  pub flagged : length flags ≡ length s.lines
  pub nodes : o.lines ≡ s.most
  pub count : s.most ≡ min capacity (length s.slots)
  pub room : resident + s.free ≡ length s.lines
  pub held : HasResident (cache_of capacity s copies flags o) resident

-- a table has something for each slot, and room for all slots that there can be
abbrev pub IsBySlot : SlotMap → ℕ → ℕ → Type 0
IsBySlot s count capacity = (count ≡ length s.lines) × (capacity ≡ s.most)
