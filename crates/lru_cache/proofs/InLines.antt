-- What a cache's slots say of its lines, and after each change of the slots.
use Rattle.std.proofs.Common.{◌≡◌, ℕ, zero, suc, ◌<◌, ◌≤◌, Bool, true, false, cond, eqb, nat_lt, Option, Some, None, is_some, List, [], ◌∷◌, ◌++◌, length, map, refl, sym, ap, inl, inr, ◌∙◌, arith, slice_index_or, slice_set}
use Rattle.std.specs.List.{slice_get}
use Rattle.std.proofs.lemmas.Bool.Decides.{nat_tests}
use Rattle.std.proofs.lemmas.Bool.{cases_eq, eq-eqb, ne_eqb}
use Rattle.std.proofs.lemmas.List.{map-set, length-set, length-map, get_or-set_other, get_or_past, get_or_default}
use Rattle.std.proofs.lemmas.Option.{slice_get_past}
use Rattle.index_list.specs.Lists.{has, without, IsDistinct}
use Rattle.index_list.proofs.Members.{has-without}
use Rattle.lru_cache.specs.Order.{LineOrders, set_of, recent_in, marked_in, list_with, order_after_use, order_after_drop, order_after_store, order_after_write_back, order_after_mark}
use Rattle.lru_cache.specs.Cache.{CacheView, is_resident, is_dirty, is_marked, is_leaving, after_write_back, after_drop, after_use, after_change, after_mark, after_mark_leaving}
use Rattle.lru_cache.specs.SlotMap.{SlotMap, slot_at, line_in, has_slot, with_added, with_taken, with_released}
use Rattle.lru_cache.specs.InSlots.{with_used, with_dropped, flag_at, orders_named, cache_of, IsInSlots}
use Rattle.lru_cache.proofs.Splits.{same_orders}
use Rattle.lru_cache.proofs.Places.{at_put, put_same}
use Rattle.lru_cache.proofs.Tables.{within, default_push, held_below, held_there, no_slot, line_added}
use Rattle.lru_cache.proofs.Named.{has-map, list-map, agree, each_agree, has-named, without-named, with-named, each-without-named, distinct_from_map, map-put}

pub same_cache : (n : ℕ) (c d : List (Option (List ℕ))) (f g : List Bool) (o p : LineOrders) → c ≡ d → f ≡ g → o ≡ p →
    (let one : CacheView = record { capacity = n; copies = c; leaving = f; orders = o } in
    let other : CacheView = record { capacity = n; copies = d; leaving = g; orders = p } in one ≡ other)
same_cache n c d f g o p a b e = cc

-- the copy and the flag of a line
pub at_copies : (slots : List ℕ) (copies : List (List ℕ)) (n line : ℕ) → length copies ≤ n →
    slice_index_or (map (slice_get copies) slots) line None ≡ slice_get copies (slice_index_or slots line n)
at_copies [] copies n line h = sym (slice_get_past copies n h)
at_copies (x ∷ xs) copies n zero h = refl
at_copies (x ∷ xs) copies n (suc line) h = at_copies xs copies n line h

pub at_flags : (slots : List ℕ) (flags : List Bool) (n line : ℕ) → length flags ≤ n →
    slice_index_or (map (flag_at flags) slots) line false ≡ flag_at flags (slice_index_or slots line n)
at_flags [] flags n line h = sym (get_or_past flags n false h)
at_flags (x ∷ xs) flags n zero h = refl
at_flags (x ∷ xs) flags n (suc line) h = at_flags xs flags n line h

some_within : (copies : List (List ℕ)) (k : ℕ) → is_some (slice_get copies k) ≡ nat_lt k (length copies)
some_within [] k = grind (arith, nat_tests)
some_within (x ∷ xs) zero = grind (arith, nat_tests)
some_within (x ∷ xs) (suc k) = grind (arith, nat_tests, some_within xs k)

get_put : (copies : List (List ℕ)) (i j : ℕ) (b : List ℕ) → i < length copies →
    slice_get (slice_set copies i b) j ≡ cond (eqb j i) (Some b) (slice_get copies j)
get_put [] i j b h = absurd (omega arith)
get_put (x ∷ xs) zero zero b h = refl
get_put (x ∷ xs) zero (suc j) b h = grind (arith, nat_tests)
get_put (x ∷ xs) (suc i) zero b h = grind (arith, nat_tests)
get_put (x ∷ xs) (suc i) (suc j) b h = grind (arith, nat_tests, get_put xs i j b (omega arith))

get_push : (copies : List (List ℕ)) (bytes : List ℕ) (k : ℕ) → eqb k (length copies) ≡ false → slice_get (copies ++ bytes ∷ []) k ≡ slice_get copies k
get_push [] bytes zero other = absurd (grind (arith, nat_tests))
get_push [] bytes (suc k) other = refl
get_push (x ∷ xs) bytes zero other = refl
get_push (x ∷ xs) bytes (suc k) other = get_push xs bytes k (grind (arith, nat_tests))

-- one slot's orders change, and those of its line with them
module _ (s : SlotMap) (o : LineOrders) (slot line : ℕ) where
  named_used : (set : ℕ) → line_in s slot ≡ line → ((x : ℕ) → has x (recent_in o set) ≡ true → eqb line (line_in s x) ≡ eqb slot x) →
      orders_named s (with_used set slot o) ≡ record (orders_named s o) { recency = slice_set (orders_named s o).recency set (line ∷ without line (recent_in (orders_named s o) set)) }
  unfolding orders_named
  named_used set e own =
      let list : map (line_in s) (slot ∷ without slot (recent_in o set)) ≡ line ∷ without line (slice_index_or (map (map (line_in s)) o.recency) set []) =
      rw (list-map (line_in s) o.recency set, ← without-named (line_in s) slot line (recent_in o set) own, e) refl in
      same_orders (length s.slots) (map (map (line_in s)) (slice_set o.recency set (slot ∷ without slot (recent_in o set))))
      (slice_set (map (map (line_in s)) o.recency) set (line ∷ without line (slice_index_or (map (map (line_in s)) o.recency) set [])))
      (map (line_in s) o.dirty) (map (line_in s) o.dirty) (map (map (line_in s)) o.marked) (map (map (line_in s)) o.marked)
      (map-set (map (line_in s)) o.recency set (slot ∷ without slot (recent_in o set)) ∙ ap (λ (l : List ℕ). slice_set (map (map (line_in s)) o.recency) set l) list) refl refl

  named_dropped : (set : ℕ) → ((x : ℕ) → has x (recent_in o set) ≡ true → eqb line (line_in s x) ≡ eqb slot x) →
      orders_named s (with_dropped set slot o) ≡ record (orders_named s o) { recency = slice_set (orders_named s o).recency set (without line (recent_in (orders_named s o) set)) }
  unfolding orders_named
  named_dropped set own =
      let list : map (line_in s) (without slot (recent_in o set)) ≡ without line (slice_index_or (map (map (line_in s)) o.recency) set []) =
      rw (list-map (line_in s) o.recency set) (without-named (line_in s) slot line (recent_in o set) own) in
      same_orders (length s.slots) (map (map (line_in s)) (slice_set o.recency set (without slot (recent_in o set))))
      (slice_set (map (map (line_in s)) o.recency) set (without line (slice_index_or (map (map (line_in s)) o.recency) set [])))
      (map (line_in s) o.dirty) (map (line_in s) o.dirty) (map (map (line_in s)) o.marked) (map (map (line_in s)) o.marked)
      (map-set (map (line_in s)) o.recency set (without slot (recent_in o set)) ∙ ap (λ (l : List ℕ). slice_set (map (map (line_in s)) o.recency) set l) list) refl refl

  named_stored : line_in s slot ≡ line → ((x : ℕ) → has x o.dirty ≡ true → eqb line (line_in s x) ≡ eqb slot x) →
      orders_named s (order_after_store slot o) ≡ order_after_store line (orders_named s o)
  unfolding orders_named
  named_stored e own = rw (with-named (line_in s) slot line o.dirty e own) refl

  named_written : ((x : ℕ) → has x o.dirty ≡ true → eqb line (line_in s x) ≡ eqb slot x) →
      ((k x : ℕ) → has x (marked_in o k) ≡ true → eqb line (line_in s x) ≡ eqb slot x) →
      orders_named s (order_after_write_back slot o) ≡ order_after_write_back line (orders_named s o)
  unfolding orders_named
  named_written own each = rw (without-named (line_in s) slot line o.dirty own, each-without-named (line_in s) slot line o.marked each) refl

  named_marked : (k : ℕ) → line_in s slot ≡ line → ((x : ℕ) → has x (marked_in o k) ≡ true → eqb line (line_in s x) ≡ eqb slot x) →
      orders_named s (order_after_mark k slot o) ≡ order_after_mark k line (orders_named s o)
  unfolding orders_named
  named_marked k e own =
      let list : map (line_in s) (list_with slot (marked_in o k)) ≡ list_with line (slice_index_or (map (map (line_in s)) o.marked) k []) =
      rw (list-map (line_in s) o.marked k) (with-named (line_in s) slot line (marked_in o k) e own) in
      same_orders (length s.slots) (map (map (line_in s)) o.recency) (map (map (line_in s)) o.recency) (map (line_in s) o.dirty) (map (line_in s) o.dirty)
      (map (map (line_in s)) (slice_set o.marked k (list_with slot (marked_in o k)))) (slice_set (map (map (line_in s)) o.marked) k (list_with line (slice_index_or (map (map (line_in s)) o.marked) k [])))
      refl refl (map-set (map (line_in s)) o.marked k (list_with slot (marked_in o k)) ∙ ap (λ (l : List ℕ). slice_set (map (map (line_in s)) o.marked) k l) list)

-- other lines in slots that stand in no order
renamed : (s t : SlotMap) (o : LineOrders) → length t.slots ≡ length s.slots → ((k x : ℕ) → has x (recent_in o k) ≡ true → line_in t x ≡ line_in s x) →
    ((x : ℕ) → has x o.dirty ≡ true → line_in t x ≡ line_in s x) → ((k x : ℕ) → has x (marked_in o k) ≡ true → line_in t x ≡ line_in s x) →
    orders_named t o ≡ orders_named s o
unfolding orders_named
renamed s t o e recent dirty marked =
    rw (e, each_agree (line_in t) (line_in s) o.recency recent, agree (line_in t) (line_in s) o.dirty dirty, each_agree (line_in t) (line_in s) o.marked marked) refl

module _ (capacity resident : ℕ) (s : SlotMap) (copies : List (List ℕ)) (flags : List Bool) (o : LineOrders) (h : IsInSlots capacity resident s copies flags o) where
  -- what each field of the cache is
  pub capacity_of : (cache_of capacity s copies flags o).capacity ≡ capacity
  unfolding cache_of
  capacity_of = refl

  pub lines_of : (cache_of capacity s copies flags o).orders.lines ≡ length s.slots
  unfolding cache_of orders_named
  lines_of = refl

  pub copy_of : (line : ℕ) → slice_index_or (cache_of capacity s copies flags o).copies line None ≡ slice_get copies (slot_at s line)
  unfolding cache_of
  copy_of line = at_copies s.slots copies s.most line (omega (arith, h.copied, h.slots.few))

  pub resident_of : (line : ℕ) → is_resident (cache_of capacity s copies flags o) line ≡ has_slot s line
  resident_of line = ap (λ (copy : Option (List ℕ)). is_some copy) (copy_of line) ∙ some_within copies (slot_at s line) ∙ rw h.copied refl

  pub leaving_of : (line : ℕ) → is_leaving (cache_of capacity s copies flags o) line ≡ flag_at flags (slot_at s line)
  unfolding cache_of
  leaving_of line = at_flags s.slots flags s.most line (omega (arith, h.flagged, h.slots.few))

  pub recent_of : (k : ℕ) → recent_in (cache_of capacity s copies flags o).orders k ≡ map (line_in s) (recent_in o k)
  unfolding cache_of orders_named
  recent_of k = list-map (line_in s) o.recency k

  pub dirty_of : (cache_of capacity s copies flags o).orders.dirty ≡ map (line_in s) o.dirty
  unfolding cache_of orders_named
  dirty_of = refl

  pub marked_of : (k : ℕ) → marked_in (cache_of capacity s copies flags o).orders k ≡ map (line_in s) (marked_in o k)
  unfolding cache_of orders_named
  marked_of k = list-map (line_in s) o.marked k

  pub recency_of : (cache_of capacity s copies flags o).orders.recency ≡ map (map (line_in s)) o.recency
  unfolding cache_of orders_named
  recency_of = refl

  sets_many : length o.recency ≡ 8
  sets_many = sym (ap (λ (sets : List (List ℕ)). length sets) recency_of ∙ length-map o.recency (map (line_in s))) ∙ h.held.sound.ordered.sets

  -- each slot in an order has a line
  pub line_used : (line : ℕ) → is_resident (cache_of capacity s copies flags o) line ≡ true → line < length s.slots
  line_used line there = held_there s line h.slots (sym (resident_of line) ∙ there)

  pub used_recent : (k x : ℕ) → has x (recent_in o k) ≡ true → line_in s x < length s.slots
  used_recent k x there =
      let named : has (line_in s x) (recent_in (cache_of capacity s copies flags o).orders k) ≡ true = rw (recent_of k) (has-map (line_in s) x (recent_in o k) there) in
      line_used (line_in s x) (grind (arith, nat_tests, h.held.sound.recent (line_in s x) k))

  pub used_dirty : (x : ℕ) → has x o.dirty ≡ true → line_in s x < length s.slots
  used_dirty x there =
      let named : is_dirty (cache_of capacity s copies flags o) (line_in s x) ≡ true = rw dirty_of (has-map (line_in s) x o.dirty there) in
      line_used (line_in s x) (h.held.sound.dirty (line_in s x) named)

  pub used_marked : (k x : ℕ) → has x (marked_in o k) ≡ true → line_in s x < length s.slots
  used_marked k x there =
      let named : is_marked (cache_of capacity s copies flags o) k (line_in s x) ≡ true = rw (marked_of k) (has-map (line_in s) x (marked_in o k) there) in
      line_used (line_in s x) (h.held.sound.dirty (line_in s x) (h.held.sound.marked k (line_in s x) named))

  -- the slot of a line is its own
  own : (line : ℕ) → has_slot s line ≡ true → (x : ℕ) → line_in s x < length s.slots → eqb line (line_in s x) ≡ eqb (slot_at s line) x
  own line held x used = grind (arith, nat_tests, h.slots.line_back line, h.slots.slot_back x)

  module _ (line : ℕ) (held : has_slot s line ≡ true) where
    own_recent : (k x : ℕ) → has x (recent_in o k) ≡ true → eqb line (line_in s x) ≡ eqb (slot_at s line) x
    own_recent k x there = own line held x (used_recent k x there)

    own_dirty : (x : ℕ) → has x o.dirty ≡ true → eqb line (line_in s x) ≡ eqb (slot_at s line) x
    own_dirty x there = own line held x (used_dirty x there)

    own_marked : (k x : ℕ) → has x (marked_in o k) ≡ true → eqb line (line_in s x) ≡ eqb (slot_at s line) x
    own_marked k x there = own line held x (used_marked k x there)

    pub back : line_in s (slot_at s line) ≡ line
    back = h.slots.line_back line (held_below s line held)

    pub line_below : line < length s.slots
    line_below = held_there s line h.slots held

    pub has_recent : (k : ℕ) → has line (recent_in (cache_of capacity s copies flags o).orders k) ≡ has (slot_at s line) (recent_in o k)
    has_recent k = rw (recent_of k) (has-named (line_in s) (slot_at s line) line (recent_in o k) (own_recent k))

    pub has_dirty : is_dirty (cache_of capacity s copies flags o) line ≡ has (slot_at s line) o.dirty
    has_dirty = rw dirty_of (has-named (line_in s) (slot_at s line) line o.dirty own_dirty)

    pub has_marked : (k : ℕ) → is_marked (cache_of capacity s copies flags o) k line ≡ has (slot_at s line) (marked_in o k)
    has_marked k = rw (marked_of k) (has-named (line_in s) (slot_at s line) line (marked_in o k) (own_marked k))

    -- which line has the slot
    own_slot : (j : ℕ) → j < length s.slots → eqb (slice_index_or s.slots j 0) (slot_at s line) ≡ eqb j line
    own_slot j low =
        let same = get_or_default s.slots j 0 s.most low in
        grind (arith, nat_tests, h.slots.line_back line, h.slots.line_back j)

    copies_put : (bytes : List ℕ) → map (slice_get (slice_set copies (slot_at s line) bytes)) s.slots ≡ slice_set (map (slice_get copies) s.slots) line (Some bytes)
    copies_put bytes = map-put None (slice_get (slice_set copies (slot_at s line) bytes)) (slice_get copies) s.slots s.slots line (Some bytes) refl line_below
        (λ j low. get_put copies (slot_at s line) (slice_index_or s.slots j 0) bytes (omega (arith, h.copied, held_below s line held))
        ∙ ap (λ (b : Bool). cond b (Some bytes) (slice_get copies (slice_index_or s.slots j 0))) (own_slot j low))

    flags_put : (flag : Bool) → map (flag_at (slice_set flags (slot_at s line) flag)) s.slots ≡ slice_set (map (flag_at flags) s.slots) line flag
    flags_put flag = map-put false (flag_at (slice_set flags (slot_at s line) flag)) (flag_at flags) s.slots s.slots line flag refl line_below
        (λ j low. at_put false flag flags (slot_at s line) (slice_index_or s.slots j 0) (omega (arith, h.flagged, held_below s line held))
        ∙ ap (λ (b : Bool). cond b flag (flag_at flags (slice_index_or s.slots j 0))) (own_slot j low))

    -- each change of a line that has a slot
    pub used_is : cache_of capacity s copies flags (with_used (set_of line) (slot_at s line) o)
        ≡ record (cache_of capacity s copies flags o) { orders = order_after_use line (cache_of capacity s copies flags o).orders }
    unfolding cache_of
    used_is = rw (named_used s o (slot_at s line) line (set_of line) back (own_recent (set_of line))) refl

    pub changed_is : (bytes : List ℕ) → cache_of capacity s (slice_set copies (slot_at s line) bytes) flags (order_after_store (slot_at s line) o)
        ≡ after_change line bytes (cache_of capacity s copies flags o)
    unfolding cache_of
    changed_is bytes = rw (named_stored s o (slot_at s line) line back own_dirty, copies_put bytes) refl

    pub written_is : cache_of capacity s copies (slice_set flags (slot_at s line) false) (order_after_write_back (slot_at s line) o)
        ≡ after_write_back line (cache_of capacity s copies flags o)
    unfolding cache_of
    written_is = rw (named_written s o (slot_at s line) line own_dirty own_marked, flags_put false) refl

    pub marked_is : (k : ℕ) → cache_of capacity s copies flags (order_after_mark k (slot_at s line) o)
        ≡ after_mark k line (cache_of capacity s copies flags o)
    unfolding cache_of
    marked_is k = rw (named_marked s o (slot_at s line) line k back (own_marked k)) refl

    pub leaving_is : cache_of capacity s copies (slice_set flags (slot_at s line) true) o ≡ after_mark_leaving line (cache_of capacity s copies flags o)
    unfolding cache_of
    leaving_is = rw (flags_put true) refl

    -- a drop frees the slot
    released_line : (x : ℕ) → eqb (slot_at s line) x ≡ false → line_in (with_released line (slot_at s line) s) x ≡ line_in s x
    released_line x other =
        let tall = length-set s.slots line s.most in
        rw tall (grind (arith, nat_tests, at_put (length s.slots) (length s.slots) s.lines (slot_at s line) x (held_below s line held)))

    dropped_recent : (k x : ℕ) → has x (recent_in (with_dropped (set_of line) (slot_at s line) o) k) ≡ true → eqb (slot_at s line) x ≡ false
    dropped_recent k x there =
        let set : set_of line < length o.recency = omega (arith, sets_many) in
        let once : IsDistinct (recent_in o (set_of line)) = distinct_from_map (line_in s) (recent_in o (set_of line)) (rw (recent_of (set_of line)) at (h.held.sound.ordered.recent_once (set_of line))) in
        grind (arith, nat_tests, at_put [] (without (slot_at s line) (recent_in o (set_of line))) o.recency (set_of line) k set, has-without x (slot_at s line) (recent_in o (set_of line)) once, has_recent k, h.held.sound.recent line k)

    pub dropped_is : is_dirty (cache_of capacity s copies flags o) line ≡ false →
        cache_of capacity (with_released line (slot_at s line) s) copies flags (with_dropped (set_of line) (slot_at s line) o) ≡ after_drop line (cache_of capacity s copies flags o)
    unfolding cache_of
    dropped_is clean =
        let tall = length-set s.slots line s.most in
        let dry : has (slot_at s line) o.dirty ≡ false = sym has_dirty ∙ clean in
        let unmarked : (k : ℕ) → has (slot_at s line) (marked_in o k) ≡ false = λ k. grind (arith, nat_tests, has_marked k, h.held.sound.marked k line) in
        let names : orders_named (with_released line (slot_at s line) s) (with_dropped (set_of line) (slot_at s line) o) ≡ orders_named s (with_dropped (set_of line) (slot_at s line) o) =
        renamed s (with_released line (slot_at s line) s) (with_dropped (set_of line) (slot_at s line) o) tall
        (λ k x there. released_line x (dropped_recent k x there))
        (λ x there. released_line x (grind (arith, nat_tests)))
        (λ k x there. released_line x (grind (arith, nat_tests, unmarked k))) in
        let flag : flag_at flags s.most ≡ false = get_or_past flags s.most false (omega (arith, h.flagged, h.slots.few)) in
        let stays : is_leaving (cache_of capacity s copies flags o) line ≡ false = grind (arith, nat_tests, h.held.sound.leaves line) in
        same_cache capacity (map (slice_get copies) (slice_set s.slots line s.most)) (slice_set (map (slice_get copies) s.slots) line None)
        (map (flag_at flags) (slice_set s.slots line s.most)) (map (flag_at flags) s.slots)
        (orders_named (with_released line (slot_at s line) s) (with_dropped (set_of line) (slot_at s line) o)) (order_after_drop line (orders_named s o))
        (map-set (slice_get copies) s.slots line s.most ∙ ap (λ (copy : Option (List ℕ)). slice_set (map (slice_get copies) s.slots) line copy) (slice_get_past copies s.most (omega (arith, h.copied, h.slots.few))))
        (map-set (flag_at flags) s.slots line s.most ∙ put_same false (flag_at flags s.most) (map (flag_at flags) s.slots) line (stays ∙ sym flag))
        (names ∙ named_dropped s o (slot_at s line) line (set_of line) (own_recent (set_of line)))

  -- a slot more changes nothing of the lines
  copies_added : (bytes : List ℕ) (slots : List ℕ) → ((j : ℕ) → j < length slots → eqb (slice_index_or slots j 0) (length copies) ≡ false) →
      map (slice_get (copies ++ bytes ∷ [])) slots ≡ map (slice_get copies) slots
  copies_added bytes [] other = refl
  copies_added bytes (x ∷ xs) other =
      let here : slice_get (copies ++ bytes ∷ []) x ≡ slice_get copies x = get_push copies bytes x (other 0 (omega arith)) in
      let rest : map (slice_get (copies ++ bytes ∷ [])) xs ≡ map (slice_get copies) xs = copies_added bytes xs (λ j low. other (suc j) (omega arith)) in
      cc

  flags_added : (slots : List ℕ) → map (flag_at (flags ++ false ∷ [])) slots ≡ map (flag_at flags) slots
  flags_added [] = refl
  flags_added (x ∷ xs) =
      let here : flag_at (flags ++ false ∷ []) x ≡ flag_at flags x = default_push false flags x in
      let rest : map (flag_at (flags ++ false ∷ [])) xs ≡ map (flag_at flags) xs = flags_added xs in
      cc

  pub added_is : (bytes : List ℕ) → length s.lines < s.most →
      cache_of capacity (with_added s) (copies ++ bytes ∷ []) (flags ++ false ∷ []) o ≡ cache_of capacity s copies flags o
  unfolding cache_of
  added_is bytes room =
      let other : (j : ℕ) → j < length s.slots → eqb (slice_index_or s.slots j 0) (length copies) ≡ false =
      λ j low. let same = get_or_default s.slots j 0 s.most low in grind (arith, nat_tests, h.copied, h.slots.added j) in
      same_cache capacity (map (slice_get (copies ++ bytes ∷ [])) s.slots) (map (slice_get copies) s.slots)
      (map (flag_at (flags ++ false ∷ [])) s.slots) (map (flag_at flags) s.slots) (orders_named (with_added s) o) (orders_named s o)
      (copies_added bytes s.slots other) (flags_added s.slots)
      (renamed s (with_added s) o refl (λ k x there. line_added s x) (λ x there. line_added s x) (λ k x there. line_added s x))

  -- a line that has none gets a free slot
  module _ (line slot : ℕ) (there : line < length s.slots) (absent : has_slot s line ≡ false) (below : slot < length s.lines) (free : line_in s slot ≡ length s.slots) where
    taken_line : (x : ℕ) → line_in s x < length s.slots → line_in (with_taken line slot s) x ≡ line_in s x
    taken_line x used =
        let tall = length-set s.slots line slot in
        rw tall (grind (arith, nat_tests, at_put (length s.slots) line s.lines slot x below))

    taken_own : (x : ℕ) → line_in s x < length s.slots → eqb line (line_in (with_taken line slot s) x) ≡ eqb slot x
    taken_own x used =
        rw (taken_line x used) (grind (arith, nat_tests, h.slots.slot_back x, within (length s.slots) s.lines x, no_slot s line absent))

    taken_slot : (j : ℕ) → j < length s.slots → eqb (slice_index_or (slice_set s.slots line slot) j 0) slot ≡ eqb j line
    taken_slot j low =
        let same = get_or_default s.slots j 0 s.most low in
        grind (arith, nat_tests, at_put 0 slot s.slots line j there, h.slots.line_back j)

    taken_at : {A : Type 0} (v : A) (g : ℕ → A) (j : ℕ) → j < length s.slots →
        cond (eqb (slice_index_or (slice_set s.slots line slot) j 0) slot) v (g (slice_index_or (slice_set s.slots line slot) j 0)) ≡ cond (eqb j line) v (g (slice_index_or s.slots j 0))
    taken_at v g j low = elim (cases_eq j line) [
      | inl e ↦ rw (taken_slot j low, eq-eqb j line e) refl
      | inr ne ↦ rw (taken_slot j low, ne_eqb j line ne, get_or-set_other s.slots line j slot 0 ne) refl
    ]

    pub filled_is : (bytes : List ℕ) →
        cache_of capacity (with_taken line slot s) (slice_set copies slot bytes) (slice_set flags slot false) (with_used (set_of line) slot o) ≡ after_use line bytes (cache_of capacity s copies flags o)
    unfolding cache_of
    filled_is bytes =
        let tall = length-set s.slots line slot in
        let name : line_in (with_taken line slot s) slot ≡ line = rw tall (grind (arith, nat_tests, at_put (length s.slots) line s.lines slot slot below)) in
        let names : orders_named (with_taken line slot s) o ≡ orders_named s o =
        renamed s (with_taken line slot s) o tall (λ k x there. taken_line x (used_recent k x there)) (λ x there. taken_line x (used_dirty x there)) (λ k x there. taken_line x (used_marked k x there)) in
        let gone : is_resident (cache_of capacity s copies flags o) line ≡ false = resident_of line ∙ absent in
        let stays : is_leaving (cache_of capacity s copies flags o) line ≡ false = grind (arith, nat_tests, h.held.sound.leaves line, h.held.sound.dirty line) in
        let copied : map (slice_get (slice_set copies slot bytes)) (slice_set s.slots line slot) ≡ slice_set (map (slice_get copies) s.slots) line (Some bytes) =
        map-put None (slice_get (slice_set copies slot bytes)) (slice_get copies) s.slots (slice_set s.slots line slot) line (Some bytes) tall there
        (λ j low. get_put copies slot (slice_index_or (slice_set s.slots line slot) j 0) bytes (omega (arith, h.copied)) ∙ taken_at (Some bytes) (slice_get copies) j low) in
        let flagged : map (flag_at (slice_set flags slot false)) (slice_set s.slots line slot) ≡ slice_set (map (flag_at flags) s.slots) line false =
        map-put false (flag_at (slice_set flags slot false)) (flag_at flags) s.slots (slice_set s.slots line slot) line false tall there
        (λ j low. at_put false false flags slot (slice_index_or (slice_set s.slots line slot) j 0) (omega (arith, h.flagged)) ∙ taken_at false (flag_at flags) j low) in
        same_cache capacity (map (slice_get (slice_set copies slot bytes)) (slice_set s.slots line slot)) (slice_set (map (slice_get copies) s.slots) line (Some bytes))
        (map (flag_at (slice_set flags slot false)) (slice_set s.slots line slot)) (map (flag_at flags) s.slots)
        (orders_named (with_taken line slot s) (with_used (set_of line) slot o)) (order_after_use line (orders_named s o))
        copied (flagged ∙ put_same false false (map (flag_at flags) s.slots) line stays)
        (named_used (with_taken line slot s) o slot line (set_of line) name (λ x there. taken_own x (used_recent (set_of line) x there)) ∙ ap (order_after_use line) names)
