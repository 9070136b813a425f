-- What holds of the slots of every cache holds after each change.
use Rattle.std.proofs.Common.{◌≡◌, ℕ, suc, ◌+◌, ◌-◌, ◌<◌, ◌≤◌, Bool, true, false, Option, None, List, [], ◌∷◌, ◌++◌, length, map, min, replicate, refl, sym, ap, zero, ◌∙◌, arith, slice_set}
use Rattle.std.specs.List.{slice_get}
use Rattle.std.proofs.lemmas.List.{length-append, length-set, length-replicate}
use Rattle.lru_cache.specs.Order.{LineOrders, IsOrdered, set_of, resident_count, empty_orders, order_after_use, order_after_drop, order_after_store, order_after_write_back, order_after_mark}
use Rattle.lru_cache.specs.Cache.{CacheView, IsOver, is_resident, is_dirty, empty_cache, after_mark, after_mark_leaving}
use Rattle.lru_cache.specs.SlotMap.{SlotMap, IsSlotMap, slot_at, line_in, has_slot, no_slots, with_added, with_taken, with_released}
use Rattle.lru_cache.specs.InSlots.{with_used, with_dropped, flag_at, orders_named, cache_of, IsInSlots}
use Rattle.lru_cache.proofs.Counts.{resident_count-lt}
use Rattle.lru_cache.proofs.Keeps.{held_write_back, held_drop, held_use, held_fill, held_change, held_mark, held_empty, keeps_mark_leaving, some_resident, absent_at}
use Rattle.lru_cache.proofs.Ordered.{ordered_use, ordered_drop, ordered_store, ordered_write_back, ordered_mark}
use Rattle.lru_cache.proofs.InLines.{same_cache, lines_of, capacity_of, resident_of, line_used, line_below, used_is, changed_is, written_is, marked_is, leaving_is, dropped_is, added_is, filled_is}

module _ (capacity resident : ℕ) (s : SlotMap) (copies : List (List ℕ)) (flags : List Bool) (o : LineOrders) (h : IsInSlots capacity resident s copies flags o) (line : ℕ) where
  -- a change of a line that has a slot
  module _ (held : has_slot s line ≡ true) where
    pub there : is_resident (cache_of capacity s copies flags o) line ≡ true
    there = resident_of capacity resident s copies flags o h line ∙ held

    low : line < (cache_of capacity s copies flags o).orders.lines
    low = rw (lines_of capacity resident s copies flags o h) (line_below capacity resident s copies flags o h line held)

    pub in_use : IsInSlots capacity resident s copies flags (with_used (set_of line) (slot_at s line) o)
    in_use = record {
      slots = h.slots;
      copied = h.copied;
      flagged = h.flagged;
      nodes = h.nodes;
      count = h.count;
      room = h.room;
      held = rw (used_is capacity resident s copies flags o h line held)
          (held_use (cache_of capacity s copies flags o) resident h.held line (order_after_use line (cache_of capacity s copies flags o).orders) (ordered_use (cache_of capacity s copies flags o).orders h.held.sound.ordered line) refl there);
    }

    pub in_change : (bytes : List ℕ) → length bytes ≡ 64 → IsInSlots capacity resident s (slice_set copies (slot_at s line) bytes) flags (order_after_store (slot_at s line) o)
    in_change bytes long = record {
      slots = h.slots;
      copied = length-set copies (slot_at s line) bytes ∙ h.copied;
      flagged = h.flagged;
      nodes = h.nodes;
      count = h.count;
      room = h.room;
      held = rw (changed_is capacity resident s copies flags o h line held bytes)
          (held_change (cache_of capacity s copies flags o) resident h.held line (order_after_store line (cache_of capacity s copies flags o).orders) (ordered_store (cache_of capacity s copies flags o).orders h.held.sound.ordered line) bytes refl there long);
    }

    pub in_write_back : IsInSlots capacity resident s copies (slice_set flags (slot_at s line) false) (order_after_write_back (slot_at s line) o)
    in_write_back = record {
      slots = h.slots;
      copied = h.copied;
      flagged = length-set flags (slot_at s line) false ∙ h.flagged;
      nodes = h.nodes;
      count = h.count;
      room = h.room;
      held = rw (written_is capacity resident s copies flags o h line held)
          (held_write_back (cache_of capacity s copies flags o) resident h.held line (order_after_write_back line (cache_of capacity s copies flags o).orders) (ordered_write_back (cache_of capacity s copies flags o).orders h.held.sound.ordered line) refl);
    }

    pub in_mark : (k : ℕ) → k < 8 → is_dirty (cache_of capacity s copies flags o) line ≡ true → IsInSlots capacity resident s copies flags (order_after_mark k (slot_at s line) o)
    in_mark k small wet = record {
      slots = h.slots;
      copied = h.copied;
      flagged = h.flagged;
      nodes = h.nodes;
      count = h.count;
      room = h.room;
      held = rw (marked_is capacity resident s copies flags o h line held k)
          (held_mark (cache_of capacity s copies flags o) resident h.held line (order_after_mark k line (cache_of capacity s copies flags o).orders) (ordered_mark (cache_of capacity s copies flags o).orders h.held.sound.ordered line k) k small refl wet);
    }

    pub in_mark_leaving : is_dirty (cache_of capacity s copies flags o) line ≡ true → IsInSlots capacity resident s copies (slice_set flags (slot_at s line) true) o
    in_mark_leaving wet = record {
      slots = h.slots;
      copied = h.copied;
      flagged = length-set flags (slot_at s line) true ∙ h.flagged;
      nodes = h.nodes;
      count = h.count;
      room = h.room;
      held = rw (leaving_is capacity resident s copies flags o h line held)
          (record { sound = keeps_mark_leaving (cache_of capacity s copies flags o) h.held.sound line low wet; counted = h.held.counted });
    }

    pub room_for : s.free + 1 ≤ length s.lines
    room_for = omega (arith, h.room, some_resident (cache_of capacity s copies flags o) resident line h.held there)

    pub in_drop : is_dirty (cache_of capacity s copies flags o) line ≡ false → IsSlotMap (with_released line (slot_at s line) s) →
        IsInSlots capacity (resident - 1) (with_released line (slot_at s line) s) copies flags (with_dropped (set_of line) (slot_at s line) o)
    in_drop clean sound =
        let tall = length-set s.slots line s.most in
        let wide = length-set s.lines (slot_at s line) (length s.slots) in
        let some = some_resident (cache_of capacity s copies flags o) resident line h.held there in
        record {
          slots = sound;
          copied = h.copied ∙ sym wide;
          flagged = h.flagged ∙ sym wide;
          nodes = h.nodes;
          count = rw tall h.count;
          room = omega (arith, h.room, wide, some);
          held = rw (dropped_is capacity resident s copies flags o h line held clean)
              (held_drop (cache_of capacity s copies flags o) resident h.held line (order_after_drop line (cache_of capacity s copies flags o).orders) (ordered_drop (cache_of capacity s copies flags o).orders h.held.sound.ordered line) refl clean there);
        }

  -- a line that has none gets one
  pub room_to_add : line < length s.slots → has_slot s line ≡ false → resident_count (cache_of capacity s copies flags o).orders + 1 ≤ capacity → s.free ≡ 0 → length s.lines < s.most
  room_to_add below absent room none =
      let fewer = resident_count-lt (cache_of capacity s copies flags o) h.held.sound (length s.slots) line (λ v e. line_used capacity resident s copies flags o h v e) below (resident_of capacity resident s copies flags o h line ∙ absent) in
      omega (arith, h.room, h.count, h.held.counted)

  pub in_fill : (slot : ℕ) (bytes : List ℕ) → line < length s.slots → has_slot s line ≡ false → slot < length s.lines → line_in s slot ≡ length s.slots →
      IsSlotMap (with_taken line slot s) → 0 < s.free → resident_count (cache_of capacity s copies flags o).orders + 1 ≤ capacity → length bytes ≡ 64 →
      IsInSlots capacity (resident + 1) (with_taken line slot s) (slice_set copies slot bytes) (slice_set flags slot false) (with_used (set_of line) slot o)
  in_fill slot bytes below absent small free sound some room long =
      let tall = length-set s.slots line slot in
      let wide = length-set s.lines slot line in
      record {
        slots = sound;
        copied = length-set copies slot bytes ∙ (h.copied ∙ sym wide);
        flagged = length-set flags slot false ∙ (h.flagged ∙ sym wide);
        nodes = h.nodes;
        count = rw tall h.count;
        room = omega (arith, h.room, wide, some);
        held = rw (filled_is capacity resident s copies flags o h line slot below absent small free bytes)
            (held_fill (cache_of capacity s copies flags o) resident h.held line (order_after_use line (cache_of capacity s copies flags o).orders) (ordered_use (cache_of capacity s copies flags o).orders h.held.sound.ordered line)
            bytes refl (rw (lines_of capacity resident s copies flags o h) below) (resident_of capacity resident s copies flags o h line ∙ absent) (rw (capacity_of capacity resident s copies flags o h) room) long);
      }

-- a slot more
pub in_added : (capacity resident : ℕ) (s : SlotMap) (copies : List (List ℕ)) (flags : List Bool) (o : LineOrders) (bytes : List ℕ) → IsInSlots capacity resident s copies flags o →
    length s.lines < s.most → IsSlotMap (with_added s) → IsInSlots capacity resident (with_added s) (copies ++ bytes ∷ []) (flags ++ false ∷ []) o
in_added capacity resident s copies flags o bytes h more sound =
    let wide : length (s.lines ++ length s.slots ∷ []) ≡ length s.lines + 1 = length-append s.lines (length s.slots ∷ []) in
    record {
      slots = sound;
      copied = omega (arith, wide, length-append copies (bytes ∷ []), h.copied);
      flagged = omega (arith, wide, length-append flags (false ∷ []), h.flagged);
      nodes = h.nodes;
      count = h.count;
      room = omega (arith, wide, h.room);
      held = rw (added_is capacity resident s copies flags o h bytes more) h.held;
    }

-- a cache still stands over its medium after a mark or a note
pub over_mark : (k line : ℕ) (c : CacheView) (lines : List (List ℕ)) → IsOver c lines → IsOver (after_mark k line c) lines
over_mark k line c lines o = record { count = o.count; whole = o.whole; clean = o.clean }

pub over_mark_leaving : (line : ℕ) (c : CacheView) (lines : List (List ℕ)) → IsOver c lines → IsOver (after_mark_leaving line c) lines
over_mark_leaving line c lines o = record { count = o.count; whole = o.whole; clean = o.clean }

-- a new cache
no_copies : (lines n : ℕ) → map (slice_get {X = List ℕ} []) (replicate lines n) ≡ replicate lines None
no_copies zero n = refl
no_copies (suc lines) n = ap (λ (l : List (Option (List ℕ))). None ∷ l) (no_copies lines n)

no_flags : (lines n : ℕ) → map (flag_at []) (replicate lines n) ≡ replicate lines false
no_flags zero n = refl
no_flags (suc lines) n = ap (λ (l : List Bool). false ∷ l) (no_flags lines n)

pub made_is : (capacity lines most : ℕ) → cache_of capacity (no_slots most lines) [] [] (empty_orders most) ≡ empty_cache capacity lines
unfolding cache_of orders_named
made_is capacity lines most =
    same_cache capacity (map (slice_get []) (replicate lines most)) (replicate lines None) (map (flag_at []) (replicate lines most)) (replicate lines false)
    (orders_named (no_slots most lines) (empty_orders most)) (empty_orders lines) (no_copies lines most) (no_flags lines most) (rw (length-replicate lines most) refl)

pub in_new : (capacity lines most : ℕ) → most ≡ min capacity lines → 1 ≤ capacity → IsSlotMap (no_slots most lines) → IsOrdered (empty_orders lines) →
    IsInSlots capacity 0 (no_slots most lines) [] [] (empty_orders most)
in_new capacity lines most e some sound ordered = record {
  slots = sound;
  copied = refl;
  flagged = refl;
  nodes = refl;
  count = e ∙ ap (λ (n : ℕ). min capacity n) (sym (length-replicate lines most));
  room = refl;
  held = rw (made_is capacity lines most) (held_empty capacity lines (empty_orders lines) refl ordered some);
}

pub ordered_empty : (lines : ℕ) → IsOrdered (empty_orders lines)
ordered_empty lines = record {
  sets = refl;
  marks = refl;
  recent_once = λ set. rw (absent_at {A = List ℕ} [] 8 set) tt;
  dirty_once = tt;
  marked_once = λ k. rw (absent_at {A = List ℕ} [] 8 k) tt;
}
