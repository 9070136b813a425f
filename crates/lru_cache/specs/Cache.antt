-- A write-back cache over a medium of lines that is lent to it call by call.
use Rattle.std.specs.Prelude.{◌≡◌, ℕ, ◌≤◌, ◌&&◌, ◌||◌, ◌==◌, Bool, true, false, nat_lt, if◌then◌else◌, Option, Some, None, is_some, unwrap_or, List, [], ◌∷◌, length, replicate, slice_index_or, slice_set}
use Rattle.std.specs.Option.{option_or}
use Rattle.index_list.specs.Lists.{has, last}
use Rattle.line_memory.specs.Lines.{line_at, AreLines}
use Rattle.lru_cache.specs.Order.{LineOrders, IsOrdered, set_of, recent_in, marked_in, resident_count, oldest_of_first, empty_orders, order_after_use, order_after_drop, order_after_store, order_after_write_back, order_after_mark}

-- the most lines that can be resident; each line's copy, by the line's number, None where it isn't resident; which lines
-- leave with their write-back; and the orders of the lines
pub record CacheView : Type 0 where
  pub capacity : ℕ
  pub copies : List (Option (List ℕ))
  pub leaving : List Bool
  pub orders : LineOrders

-- what a load finds: each line's copy, or the medium's bytes where it has none
abbrev pub copied_over : List (Option (List ℕ)) → List (List ℕ) → List (List ℕ)
copied_over copies [] = []
copied_over [] (line ∷ lines) = line ∷ lines
copied_over (copy ∷ copies) (line ∷ lines) = unwrap_or copy line ∷ copied_over copies lines

abbrev pub shown : CacheView → List (List ℕ) → List (List ℕ)
shown c lines = copied_over c.copies lines

-- the tests of a line
abbrev pub is_resident : CacheView → ℕ → Bool
is_resident c line = is_some (slice_index_or c.copies line None)

abbrev pub is_dirty : CacheView → ℕ → Bool
is_dirty c line = has line c.orders.dirty

abbrev pub is_marked : CacheView → ℕ → ℕ → Bool
is_marked c k line = has line (marked_in c.orders k)

abbrev pub is_leaving : CacheView → ℕ → Bool
is_leaving c line = slice_index_or c.leaving line false

-- the line that a use of `line` evicts: of a full cache where `line` isn't resident, the least recently used of the set
-- of `line`, or, where that set has no resident line, of the lowest set that has one
abbrev pub victim : CacheView → ℕ → Option ℕ
victim c line =
    if is_resident c line || nat_lt (resident_count c.orders) c.capacity then None
    else option_or (last (recent_in c.orders (set_of line))) (oldest_of_first c.orders.recency)

-- nothing is resident
abbrev pub empty_cache : ℕ → ℕ → CacheView
empty_cache capacity lines = record { capacity = capacity; copies = replicate lines None; leaving = replicate lines false; orders = empty_orders lines }

-- after the line was written back: it is resident as before, and neither dirty, marked nor leaving
abbrev pub after_write_back : ℕ → CacheView → CacheView
after_write_back line c = record c { leaving = slice_set c.leaving line false; orders = order_after_write_back line c.orders }

-- after the line was dropped: it isn't resident
abbrev pub after_drop : ℕ → CacheView → CacheView
after_drop line c = record c { copies = slice_set c.copies line None; orders = order_after_drop line c.orders }

-- after the line was evicted: it was written back and then dropped
abbrev pub after_eviction : ℕ → CacheView → CacheView
after_eviction line c = after_drop line (after_write_back line c)

-- the medium after the line was written back: it has the line as loads show it
abbrev pub written_back : ℕ → CacheView → List (List ℕ) → List (List ℕ)
written_back line c lines = slice_set lines line (line_at (shown c lines) line)

-- after an eviction that a miss forces, if there is one
abbrev pub after_forced : Option ℕ → CacheView → CacheView
after_forced None c = c
after_forced (Some line) c = after_eviction line c

abbrev pub written_by_forced : Option ℕ → CacheView → List (List ℕ) → List (List ℕ)
written_by_forced None c lines = lines
written_by_forced (Some line) c lines = written_back line c lines

-- after a use of the line: it is resident with these bytes, the most recently used of its set
abbrev pub after_use : ℕ → List ℕ → CacheView → CacheView
after_use line bytes c = record c { copies = slice_set c.copies line (Some bytes); orders = order_after_use line c.orders }

-- after a load from the line: its victim has left and it is resident
abbrev pub after_load : ℕ → CacheView → List (List ℕ) → CacheView
after_load line c lines = after_use line (line_at (shown c lines) line) (after_forced (victim c line) c)

-- after new bytes were put in the resident line: it is dirty
abbrev pub after_change : ℕ → List ℕ → CacheView → CacheView
after_change line bytes c = record c { copies = slice_set c.copies line (Some bytes); orders = order_after_store line c.orders }

abbrev pub after_mark : ℕ → ℕ → CacheView → CacheView
after_mark k line c = record c { orders = order_after_mark k line c.orders }

abbrev pub after_mark_leaving : ℕ → CacheView → CacheView
after_mark_leaving line c = record c { leaving = slice_set c.leaving line true }

-- what holds of every cache: its resident lines stand in the order of their set, each with 64 bytes, and are at most as
-- many as its capacity; a dirty line is resident, and a marked or leaving one dirty
pub record IsCache (c : CacheView) : Type 0 where
  pub ordered : IsOrdered c.orders
  pub copied : length c.copies ≡ c.orders.lines
  pub flagged : length c.leaving ≡ c.orders.lines
  pub whole : (line : ℕ) (bytes : List ℕ) → slice_index_or c.copies line None ≡ Some bytes → length bytes ≡ 64
  pub recent : (line set : ℕ) → has line (recent_in c.orders set) ≡ (is_resident c line && (set == set_of line))
  pub dirty : (line : ℕ) → is_dirty c line ≡ true → is_resident c line ≡ true
  pub marked : (k line : ℕ) → is_marked c k line ≡ true → is_dirty c line ≡ true
  pub leaves : (line : ℕ) → is_leaving c line ≡ true → is_dirty c line ≡ true
  pub some : 1 ≤ c.capacity
  pub fits : resident_count c.orders ≤ c.capacity

-- the cache can stand over these lines: they are as many as it was made for, each of 64 bytes, and a line that isn't
-- dirty is shown as the medium has it
pub record IsOver (c : CacheView) (lines : List (List ℕ)) : Type 0 where
  pub count : length lines ≡ c.orders.lines
  pub whole : AreLines lines
  pub clean : (line : ℕ) → is_dirty c line ≡ false → line_at (shown c lines) line ≡ line_at lines line

-- a cache, and how many of its lines are resident
pub record HasResident (c : CacheView) (resident : ℕ) : Type 0 where
  pub sound : IsCache c
  pub counted : resident ≡ resident_count c.orders
