-- What a cache's slots say of it, by its value.
use Rattle.std.proofs.Common.{◌≡◌, ℕ, ◌+◌, ◌<◌, ◌≤◌, ◌⊎◌, inl, inr, Bool, true, false, Option, Some, None, IfSome, IfNone, IsSome, is_some, List, length, refl, sym, ◌∙◌, arith, slice_index_or, slice_set}
use Rattle.std.specs.List.{slice_get}
use Rattle.std.specs.Option.{option_map, option_or}
use Rattle.std.proofs.lemmas.Bool.{cases_Bool, lt-ltb, le-ltb}
use Rattle.std.proofs.lemmas.Bool.Decides.{nat_tests}
use Rattle.std.proofs.lemmas.Option.{slice_get_read}
use Rattle.index_list.specs.Lists.{has, first, last}
use Rattle.lru_cache.specs.Order.{LineOrders, set_of, recent_in, marked_in, oldest_of_first, resident_count}
use Rattle.lru_cache.specs.Cache.{CacheView, IsCache, is_resident, is_dirty, is_marked, is_leaving, victim, after_use}
use Rattle.lru_cache.specs.SlotMap.{SlotMap, slot_at, line_in, has_slot}
use Rattle.lru_cache.specs.InSlots.{with_used, flag_at, cache_of, IsInSlots}
use Rattle.lru_cache.proofs.Places.{put_same}
use Rattle.lru_cache.proofs.Tables.{within, held_below}
use Rattle.lru_cache.proofs.Named.{has-map, first-map, last-map, either-map, oldest-map}
use Rattle.lru_cache.proofs.Victims.{oldest_resident, first_resident, of_either, none_both, room_from_none}
use Rattle.lru_cache.proofs.InLines.{capacity_of, lines_of, copy_of, resident_of, leaving_of, recent_of, marked_of, recency_of, line_used, used_recent, used_marked, has_dirty, has_marked, used_is}

-- whether a slot was found
pub found_is : (s : SlotMap) (line : ℕ) (found : Option ℕ) → IfSome found (λ slot. has_slot s line ≡ true) → IfNone found (has_slot s line ≡ false) →
    is_some found ≡ has_slot s line
found_is s line None held none = sym none
found_is s line (Some slot) held none = sym held

some_mapped : (f : ℕ → ℕ) (found : Option ℕ) (x : ℕ) → option_map f found ≡ Some x → IsSome found
some_mapped f None x e = cc
some_mapped f (Some y) x e = refl

module _ (capacity resident : ℕ) (s : SlotMap) (copies : List (List ℕ)) (flags : List Bool) (o : LineOrders) (h : IsInSlots capacity resident s copies flags o) (v : CacheView) (e : cache_of capacity s copies flags o ≡ v) where
  pub sound_at : IsCache v
  sound_at = rw e at h.held.sound

  pub capacity_at : v.capacity ≡ capacity
  capacity_at = rw (← e) (capacity_of capacity resident s copies flags o h)

  pub count_at : resident ≡ resident_count v.orders
  count_at = rw e at h.held.counted

  pub lines_at : v.orders.lines ≡ length s.slots
  lines_at = rw (← e) (lines_of capacity resident s copies flags o h)

  pub resident_at : (line : ℕ) → is_resident v line ≡ has_slot s line
  resident_at line = rw (← e) (resident_of capacity resident s copies flags o h line)

  pub copy_at : (line : ℕ) → slice_index_or v.copies line None ≡ slice_get copies (slot_at s line)
  copy_at line = rw (← e) (copy_of capacity resident s copies flags o h line)

  pub slot_low : (line slot : ℕ) → has_slot s line ≡ true → slot ≡ slot_at s line → slot < length s.lines
  slot_low line slot held is = rw is (held_below s line held)

  -- the copy that was read
  pub copy_read : (line slot : ℕ) (bytes : List ℕ) → has_slot s line ≡ true → slot ≡ slot_at s line → bytes ≡ slice_index_or copies slot bytes →
      slice_index_or v.copies line None ≡ Some bytes
  copy_read line slot bytes held is read =
      copy_at line ∙ rw (← is) (slice_get_read copies (length s.lines) slot bytes (sym h.copied) (slot_low line slot held is) read)

  -- the tests of a line
  pub dirty_at : (line : ℕ) → has_slot s line ≡ true → is_dirty v line ≡ has (slot_at s line) o.dirty
  dirty_at line held = rw (← e) (has_dirty capacity resident s copies flags o h line held)

  pub dirty_none : (line : ℕ) → has_slot s line ≡ false → is_dirty v line ≡ false
  dirty_none line absent = grind (arith, nat_tests, sound_at.dirty line, resident_at line)

  pub dirty_held : (line : ℕ) → is_dirty v line ≡ true → has_slot s line ≡ true
  dirty_held line wet = sym (resident_at line) ∙ sound_at.dirty line wet

  pub marked_at : (k line : ℕ) → has_slot s line ≡ true → is_marked v k line ≡ has (slot_at s line) (marked_in o k)
  marked_at k line held = rw (← e) (has_marked capacity resident s copies flags o h line held k)

  pub marked_none : (k line : ℕ) → has_slot s line ≡ false → is_marked v k line ≡ false
  marked_none k line absent = grind (arith, nat_tests, sound_at.marked k line, sound_at.dirty line, resident_at line)

  pub leaving_at : (line : ℕ) → is_leaving v line ≡ flag_at flags (slot_at s line)
  leaving_at line = rw (← e) (leaving_of capacity resident s copies flags o h line)

  pub leaving_none : (line : ℕ) → has_slot s line ≡ false → is_leaving v line ≡ false
  leaving_none line absent = grind (arith, nat_tests, sound_at.leaves line, sound_at.dirty line, resident_at line)

  -- the first of a list
  pub first_recent_at : (k : ℕ) → first (recent_in v.orders k) ≡ option_map (line_in s) (first (recent_in o k))
  first_recent_at k = rw (← e, recent_of capacity resident s copies flags o h k) (first-map (line_in s) (recent_in o k))

  pub recent_low : (k slot : ℕ) → has slot (recent_in o k) ≡ true → slot < length s.lines
  recent_low k slot there = within (length s.slots) s.lines slot (used_recent capacity resident s copies flags o h k slot there)

  pub first_marked_at : (k : ℕ) → first (marked_in v.orders k) ≡ option_map (line_in s) (first (marked_in o k))
  first_marked_at k = rw (← e, marked_of capacity resident s copies flags o h k) (first-map (line_in s) (marked_in o k))

  pub marked_low : (k slot : ℕ) → has slot (marked_in o k) ≡ true → slot < length s.lines
  marked_low k slot there = within (length s.slots) s.lines slot (used_marked capacity resident s copies flags o h k slot there)

  pub marked_there : (k slot : ℕ) → has slot (marked_in o k) ≡ true → line_in s slot < v.orders.lines
  marked_there k slot there = rw lines_at (used_marked capacity resident s copies flags o h k slot there)

  pub marked_name : (k slot : ℕ) → has slot (marked_in o k) ≡ true → is_marked v k (line_in s slot) ≡ true
  marked_name k slot there = rw (← e, marked_of capacity resident s copies flags o h k) (has-map (line_in s) slot (marked_in o k) there)

  -- the line that a miss evicts
  pub oldest_at : (set : ℕ) → option_or (last (recent_in v.orders set)) (oldest_of_first v.orders.recency)
      ≡ option_map (line_in s) (option_or (last (recent_in o set)) (oldest_of_first o.recency))
  oldest_at set =
      rw (← e, recent_of capacity resident s copies flags o h set, recency_of capacity resident s copies flags o h, last-map (line_in s) (recent_in o set), oldest-map (line_in s) o.recency)
      (either-map (line_in s) (last (recent_in o set)) (oldest_of_first o.recency))

  pub evicted_there : (set : ℕ) → IfSome (option_or (last (recent_in v.orders set)) (oldest_of_first v.orders.recency)) (λ line. is_resident v line ≡ true)
  evicted_there set =
      of_either (is_resident v) (last (recent_in v.orders set)) (oldest_of_first v.orders.recency) (oldest_resident v sound_at set) (first_resident v sound_at)

  pub evicted_resident : (set slot : ℕ) → Some slot ≡ option_or (last (recent_in o set)) (oldest_of_first o.recency) → is_resident v (line_in s slot) ≡ true
  evicted_resident set slot is =
      let some : option_or (last (recent_in v.orders set)) (oldest_of_first v.orders.recency) ≡ Some (line_in s slot) = oldest_at set ∙ rw (← is) refl in
      rw some at (evicted_there set)

  pub evicted_below : (set slot : ℕ) → Some slot ≡ option_or (last (recent_in o set)) (oldest_of_first o.recency) → line_in s slot < length s.slots
  evicted_below set slot is =
      line_used capacity resident s copies flags o h (line_in s slot) (rw (← e) at (evicted_resident set slot is))

  pub evicted_low : (set slot : ℕ) → Some slot ≡ option_or (last (recent_in o set)) (oldest_of_first o.recency) → slot < length s.lines
  evicted_low set slot is = within (length s.slots) s.lines slot (evicted_below set slot is)

  -- the most recently used line of a set
  pub latest_at : (set slot : ℕ) → Some slot ≡ first (recent_in o set) → first (recent_in v.orders set) ≡ Some (line_in s slot)
  latest_at set slot is = first_recent_at set ∙ rw (← is) refl

  pub latest_none : (set : ℕ) → None ≡ first (recent_in o set) → first (recent_in v.orders set) ≡ None
  latest_none set is = first_recent_at set ∙ rw (← is) refl

  pub first_at : (k slot : ℕ) → Some slot ≡ first (marked_in o k) → first (marked_in v.orders k) ≡ Some (line_in s slot)
  first_at k slot is = first_marked_at k ∙ rw (← is) refl

  pub first_none : (k : ℕ) → None ≡ first (marked_in o k) → first (marked_in v.orders k) ≡ None
  first_none k is = first_marked_at k ∙ rw (← is) refl

  -- the line that a use evicts
  pub evicts_none : (line : ℕ) → (is_resident v line ≡ true) ⊎ (resident < capacity) → victim v line ≡ None
  evicts_none line (inl there) = rw there refl
  evicts_none line (inr room) =
      let low : resident_count v.orders < v.capacity = omega (arith, capacity_at, count_at) in
      elim (cases_Bool (is_resident v line)) [
        | inl there ↦ rw there refl
        | inr gone ↦ rw (gone, lt-ltb (resident_count v.orders) v.capacity low) refl
      ]

  pub evicts_oldest : (line : ℕ) → is_resident v line ≡ false → capacity ≤ resident → victim v line ≡ option_map (line_in s) (option_or (last (recent_in o (set_of line))) (oldest_of_first o.recency))
  evicts_oldest line gone full =
      let most : v.capacity ≤ resident_count v.orders = omega (arith, capacity_at, count_at) in
      rw (gone, le-ltb (resident_count v.orders) v.capacity most) (oldest_at (set_of line))

  pub resident_held : (line : ℕ) → is_resident v line ≡ true → has_slot s line ≡ true
  resident_held line there = sym (resident_at line) ∙ there

  -- a use of a line that has a copy leaves the copy
  pub touched_is : (line : ℕ) → has_slot s line ≡ true → (bytes : List ℕ) → slice_index_or v.copies line None ≡ Some bytes →
      cache_of capacity s copies flags (with_used (set_of line) (slot_at s line) o) ≡ after_use line bytes v
  touched_is line held bytes is =
      let stays : slice_set v.copies line (Some bytes) ≡ v.copies = put_same None (Some bytes) v.copies line is in
      used_is capacity resident s copies flags o h line held ∙ rw (e, stays) refl

  pub evicts_line : (line slot : ℕ) → is_resident v line ≡ false → capacity ≤ resident → Some slot ≡ option_or (last (recent_in o (set_of line))) (oldest_of_first o.recency) →
      victim v line ≡ Some (line_in s slot)
  evicts_line line slot gone full is = evicts_oldest line gone full ∙ rw (← is) refl

  pub evicts_nothing : (line : ℕ) → is_resident v line ≡ false → capacity ≤ resident → None ≡ option_or (last (recent_in o (set_of line))) (oldest_of_first o.recency) →
      victim v line ≡ None
  evicts_nothing line gone full is = evicts_oldest line gone full ∙ rw (← is) refl

  pub room_from_nothing : (set : ℕ) → None ≡ option_or (last (recent_in o set)) (oldest_of_first o.recency) → resident_count v.orders + 1 ≤ v.capacity
  room_from_nothing set is =
      room_from_none v sound_at (none_both (last (recent_in v.orders set)) (oldest_of_first v.orders.recency) (oldest_at set ∙ rw (← is) refl)).1

  -- the slot of the most recently used line of its set
  module _ (line slot : ℕ) (latest : first (recent_in v.orders (set_of line)) ≡ Some line) (is : Some slot ≡ first (recent_in o (set_of line))) (member : has slot (recent_in o (set_of line)) ≡ true) where
    latest_name : line_in s slot ≡ line
    latest_name = let both = sym (latest_at (set_of line) slot is) ∙ latest in cc

    pub latest_slot : slot ≡ slot_at s line
    latest_slot =
        sym (rw latest_name at (h.slots.slot_back slot (used_recent capacity resident s copies flags o h (set_of line) slot member)))

    pub latest_held : has_slot s line ≡ true
    latest_held = let low = recent_low (set_of line) slot member in rw (← latest_slot) (lt-ltb slot (length s.lines) low)

  pub latest_some : (line : ℕ) → first (recent_in v.orders (set_of line)) ≡ Some line → IsSome (first (recent_in o (set_of line)))
  latest_some line latest = some_mapped (line_in s) (first (recent_in o (set_of line))) line (sym (first_recent_at (set_of line)) ∙ latest)
