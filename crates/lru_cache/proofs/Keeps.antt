-- What holds of every cache holds after each change.
use Rattle.std.proofs.Common.{◌≡◌, ℕ, zero, suc, ◌+◌, ◌-◌, ◌<◌, ◌≤◌, true, false, cond, eqb, Option, Some, None, is_some, List, [], ◌∷◌, length, map, replicate, refl, sym, ap, inl, inr, ◌∙◌, arith, slice_index_or, slice_set}
use Rattle.std.proofs.lemmas.Bool.Decides.{nat_tests}
use Rattle.std.proofs.lemmas.Bool.{cases_lt}
use Rattle.std.proofs.lemmas.List.{length-set, length-replicate, get_or_past}
use Rattle.std.proofs.lemmas.List.Sums.{sum_by-set}
use Rattle.index_list.specs.Lists.{has, without}
use Rattle.index_list.proofs.Members.{has-without, without_absent, length-without}
use Rattle.lru_cache.specs.Order.{LineOrders, IsOrdered, set_of, recent_in, marked_in, resident_count, list_with, order_after_use, order_after_drop, order_after_store, order_after_write_back, order_after_mark, empty_orders}
use Rattle.lru_cache.specs.Cache.{CacheView, IsCache, HasResident, is_resident, is_dirty, after_write_back, after_drop, after_use, after_change, after_mark, after_mark_leaving}
use Rattle.lru_cache.proofs.Places.{at_put, at_cleared, put_same, at_map_without, map_without_absent, has-list_with}

-- how many lines are resident after a use, and after a drop
pub count_used : (o : LineOrders) (line : ℕ) → IsOrdered o → has line (recent_in o (set_of line)) ≡ true →
    resident_count (order_after_use line o) ≡ resident_count o
count_used o line s h =
    let there : set_of line < length o.recency = omega (arith, s.sets) in
    omega (arith, sum_by-set length o.recency (set_of line) (line ∷ without line (recent_in o (set_of line))) [] there, length-without line (recent_in o (set_of line)) h)

pub count_filled : (o : LineOrders) (line : ℕ) → IsOrdered o → has line (recent_in o (set_of line)) ≡ false →
    resident_count (order_after_use line o) ≡ resident_count o + 1
count_filled o line s h =
    let there : set_of line < length o.recency = omega (arith, s.sets) in
    omega (arith, sum_by-set length o.recency (set_of line) (line ∷ without line (recent_in o (set_of line))) [] there, ap length (without_absent line (recent_in o (set_of line)) h))

pub count_dropped : (o : LineOrders) (line : ℕ) → IsOrdered o → has line (recent_in o (set_of line)) ≡ true →
    resident_count (order_after_drop line o) + 1 ≡ resident_count o
count_dropped o line s h =
    let there : set_of line < length o.recency = omega (arith, s.sets) in
    omega (arith, sum_by-set length o.recency (set_of line) (without line (recent_in o (set_of line))) [] there, length-without line (recent_in o (set_of line)) h)

none_from : (o : Option (List ℕ)) → is_some o ≡ false → o ≡ None
none_from None h = refl
none_from (Some b) h = cc

module _ (c : CacheView) (s : IsCache c) (line : ℕ) where
  pub in_set : has line (recent_in c.orders (set_of line)) ≡ is_resident c line
  in_set = grind (arith, nat_tests, s.recent line (set_of line))

  pub keeps_write_back : IsOrdered (order_after_write_back line c.orders) → IsCache (after_write_back line c)
  keeps_write_back o = record {
    ordered = o;
    copied = s.copied;
    flagged = length-set c.leaving line false ∙ s.flagged;
    whole = s.whole;
    recent = s.recent;
    dirty = λ j h. s.dirty j (grind (arith, nat_tests, has-without j line c.orders.dirty s.ordered.dirty_once));
    marked = λ k j h.
        let at : has j (without line (marked_in c.orders k)) ≡ true = rw (at_map_without line c.orders.marked k) at h in
        grind (arith, nat_tests, has-without j line (marked_in c.orders k) (s.ordered.marked_once k), has-without j line c.orders.dirty s.ordered.dirty_once, s.marked k j);
    leaves = λ j h. grind (arith, nat_tests, at_cleared false c.leaving line j, has-without j line c.orders.dirty s.ordered.dirty_once, s.leaves j);
    some = s.some;
    fits = s.fits;
  }

  -- a drop
  pub keeps_drop : IsOrdered (order_after_drop line c.orders) → is_dirty c line ≡ false → is_resident c line ≡ true → IsCache (after_drop line c)
  keeps_drop o clean there =
      let list : List ℕ = recent_in c.orders (set_of line) in
      let set : set_of line < length c.orders.recency = omega (arith, s.ordered.sets) in
      let copy : (j : ℕ) → slice_index_or (slice_set c.copies line None) j None ≡ cond (eqb j line) None (slice_index_or c.copies j None) = λ j. at_cleared None c.copies line j in
      record {
        ordered = o;
        copied = length-set c.copies line None ∙ s.copied;
        flagged = s.flagged;
        whole = λ j bytes h. s.whole j bytes (grind (arith, nat_tests, copy j));
        recent = λ j k. grind (arith, nat_tests, copy j, s.recent j k, has-without j line list (s.ordered.recent_once (set_of line)), at_put [] (without line list) c.orders.recency (set_of line) k set);
        dirty = λ j h. grind (arith, nat_tests, copy j, s.dirty j h);
        marked = s.marked;
        leaves = s.leaves;
        some = s.some;
        fits = omega (arith, s.fits, count_dropped c.orders line s.ordered (in_set ∙ there));
      }

  -- a use, where the lines still fit
  pub keeps_use : (bytes : List ℕ) → IsOrdered (order_after_use line c.orders) → line < c.orders.lines → length bytes ≡ 64 →
      resident_count (order_after_use line c.orders) ≤ c.capacity → IsCache (after_use line bytes c)
  keeps_use bytes o below long fits =
      let list : List ℕ = recent_in c.orders (set_of line) in
      let set : set_of line < length c.orders.recency = omega (arith, s.ordered.sets) in
      let copy : (j : ℕ) → slice_index_or (slice_set c.copies line (Some bytes)) j None ≡ cond (eqb j line) (Some bytes) (slice_index_or c.copies j None) = λ j. at_put None (Some bytes) c.copies line j (omega (arith, s.copied)) in
      record {
        ordered = o;
        copied = length-set c.copies line (Some bytes) ∙ s.copied;
        flagged = s.flagged;
        whole = λ j b h. grind (arith, nat_tests, copy j, s.whole j b);
        recent = λ j k. grind (arith, nat_tests, copy j, s.recent j k, has-without j line list (s.ordered.recent_once (set_of line)), at_put [] (line ∷ without line list) c.orders.recency (set_of line) k set);
        dirty = λ j h. grind (arith, nat_tests, copy j, s.dirty j h);
        marked = s.marked;
        leaves = s.leaves;
        some = s.some;
        fits = fits;
      }

  -- a use of a line that has its copy already
  pub keeps_touch : IsOrdered (order_after_use line c.orders) → is_resident c line ≡ true →
      resident_count (order_after_use line c.orders) ≤ c.capacity → IsCache (record c { orders = order_after_use line c.orders })
  keeps_touch o there fits =
      let list : List ℕ = recent_in c.orders (set_of line) in
      let set : set_of line < length c.orders.recency = omega (arith, s.ordered.sets) in
      record {
        ordered = o;
        copied = s.copied;
        flagged = s.flagged;
        whole = s.whole;
        recent = λ j k. grind (arith, nat_tests, s.recent j k, has-without j line list (s.ordered.recent_once (set_of line)), at_put [] (line ∷ without line list) c.orders.recency (set_of line) k set);
        dirty = s.dirty;
        marked = s.marked;
        leaves = s.leaves;
        some = s.some;
        fits = fits;
      }

  -- other bytes in a resident line
  pub keeps_change : (bytes : List ℕ) → IsOrdered (order_after_store line c.orders) → line < c.orders.lines → length bytes ≡ 64 →
      is_resident c line ≡ true → IsCache (after_change line bytes c)
  keeps_change bytes o below long there =
      let copy : (j : ℕ) → slice_index_or (slice_set c.copies line (Some bytes)) j None ≡ cond (eqb j line) (Some bytes) (slice_index_or c.copies j None) = λ j. at_put None (Some bytes) c.copies line j (omega (arith, s.copied)) in
      record {
        ordered = o;
        copied = length-set c.copies line (Some bytes) ∙ s.copied;
        flagged = s.flagged;
        whole = λ j b h. grind (arith, nat_tests, copy j, s.whole j b);
        recent = λ j k. grind (arith, nat_tests, copy j, s.recent j k);
        dirty = λ j h. grind (arith, nat_tests, copy j, s.dirty j, has-list_with j line c.orders.dirty);
        marked = λ k j h. grind (arith, nat_tests, s.marked k j h, has-list_with j line c.orders.dirty);
        leaves = λ j h. grind (arith, nat_tests, s.leaves j h, has-list_with j line c.orders.dirty);
        some = s.some;
        fits = s.fits;
      }

  pub keeps_mark : (k : ℕ) → k < 8 → IsOrdered (order_after_mark k line c.orders) → is_dirty c line ≡ true → IsCache (after_mark k line c)
  keeps_mark k low o wet =
      let list : k < length c.orders.marked = omega (arith, s.ordered.marks) in
      record {
        ordered = o;
        copied = s.copied;
        flagged = s.flagged;
        whole = s.whole;
        recent = s.recent;
        dirty = s.dirty;
        marked = λ m j h. grind (arith, nat_tests, s.marked m j, s.marked k j, has-list_with j line (marked_in c.orders k), at_put [] (list_with line (marked_in c.orders k)) c.orders.marked k m list);
        leaves = s.leaves;
        some = s.some;
        fits = s.fits;
      }

  pub keeps_mark_leaving : line < c.orders.lines → is_dirty c line ≡ true → IsCache (after_mark_leaving line c)
  keeps_mark_leaving below wet = record {
    ordered = s.ordered;
    copied = s.copied;
    flagged = length-set c.leaving line true ∙ s.flagged;
    whole = s.whole;
    recent = s.recent;
    dirty = s.dirty;
    marked = s.marked;
    leaves = λ j h. grind (arith, nat_tests, s.leaves j, at_put false true c.leaving line j (omega (arith, s.flagged)));
    some = s.some;
    fits = s.fits;
  }

  -- a dirty line is there
  pub resident_below : is_resident c line ≡ true → line < c.orders.lines
  resident_below there = elim (cases_lt line (length c.copies)) [
    | inl low ↦ omega (arith, s.copied)
    | inr past ↦ absurd (let no : is_some {T = List ℕ} None ≡ true = rw (get_or_past c.copies line None past) at there in cc)
  ]

  -- what a line that isn't dirty, or isn't resident, has none of
  pub nothing_written : is_dirty c line ≡ false → after_write_back line c ≡ c
  nothing_written clean =
      let flag : slice_set c.leaving line false ≡ c.leaving = put_same false false c.leaving line (grind (arith, nat_tests, s.leaves line)) in
      let wet : without line c.orders.dirty ≡ c.orders.dirty = without_absent line c.orders.dirty clean in
      let marks : map (without line) c.orders.marked ≡ c.orders.marked = map_without_absent line c.orders.marked (λ k. grind (arith, nat_tests, s.marked k line)) in
      rw (flag, wet, marks) refl

  pub nothing_dropped : is_resident c line ≡ false → after_drop line c ≡ c
  nothing_dropped absent =
      let copy : slice_set c.copies line None ≡ c.copies = put_same None None c.copies line (none_from (slice_index_or c.copies line None) absent) in
      let list : without line (recent_in c.orders (set_of line)) ≡ recent_in c.orders (set_of line) = without_absent line (recent_in c.orders (set_of line)) (in_set ∙ absent) in
      let lists : slice_set c.orders.recency (set_of line) (without line (recent_in c.orders (set_of line))) ≡ c.orders.recency = put_same [] (without line (recent_in c.orders (set_of line))) c.orders.recency (set_of line) (sym list) in
      rw (copy, lists) refl

-- the same of a cache with the count that it keeps
module _ (c : CacheView) (n : ℕ) (h : HasResident c n) (line : ℕ) (o : LineOrders) (s : IsOrdered o) where
  pub held_write_back : o ≡ order_after_write_back line c.orders →
      HasResident (record { capacity = c.capacity; copies = c.copies; leaving = slice_set c.leaving line false; orders = o }) n
  held_write_back e =
      let s' = rw e at s in
      rw e (record { sound = keeps_write_back c h.sound line s'; counted = h.counted })

  pub held_drop : o ≡ order_after_drop line c.orders → is_dirty c line ≡ false → is_resident c line ≡ true →
      HasResident (record { capacity = c.capacity; copies = slice_set c.copies line None; leaving = c.leaving; orders = o }) (n - 1)
  held_drop e clean there =
      let s' = rw e at s in
      rw e (record { sound = keeps_drop c h.sound line s' clean there; counted = omega (arith, h.counted, count_dropped c.orders line h.sound.ordered (in_set c h.sound line ∙ there)) })

  pub held_use : o ≡ order_after_use line c.orders → is_resident c line ≡ true →
      HasResident (record { capacity = c.capacity; copies = c.copies; leaving = c.leaving; orders = o }) n
  held_use e there =
      let s' = rw e at s in
      let same : resident_count (order_after_use line c.orders) ≡ resident_count c.orders = count_used c.orders line h.sound.ordered (in_set c h.sound line ∙ there) in
      rw e (record { sound = keeps_touch c h.sound line s' there (omega (arith, h.sound.fits)); counted = h.counted ∙ sym same })

  pub held_fill : (bytes : List ℕ) → o ≡ order_after_use line c.orders → line < c.orders.lines → is_resident c line ≡ false →
      resident_count c.orders + 1 ≤ c.capacity → length bytes ≡ 64 →
      HasResident (record { capacity = c.capacity; copies = slice_set c.copies line (Some bytes); leaving = c.leaving; orders = o }) (n + 1)
  held_fill bytes e low absent room long =
      let s' = rw e at s in
      let more : resident_count (order_after_use line c.orders) ≡ resident_count c.orders + 1 = count_filled c.orders line h.sound.ordered (in_set c h.sound line ∙ absent) in
      rw e (record { sound = keeps_use c h.sound line bytes s' low long (omega arith); counted = omega (arith, h.counted) })

  pub held_change : (bytes : List ℕ) → o ≡ order_after_store line c.orders → is_resident c line ≡ true → length bytes ≡ 64 →
      HasResident (record { capacity = c.capacity; copies = slice_set c.copies line (Some bytes); leaving = c.leaving; orders = o }) n
  held_change bytes e there long =
      let s' = rw e at s in
      rw e (record { sound = keeps_change c h.sound line bytes s' (resident_below c h.sound line there) long there; counted = h.counted })

  pub held_mark : (k : ℕ) → k < 8 → o ≡ order_after_mark k line c.orders → is_dirty c line ≡ true →
      HasResident (record { capacity = c.capacity; copies = c.copies; leaving = c.leaving; orders = o }) n
  held_mark k low e wet =
      let s' = rw e at s in
      rw e (record { sound = keeps_mark c h.sound line k low s' wet; counted = h.counted })

pub some_resident : (c : CacheView) (n line : ℕ) → HasResident c n → is_resident c line ≡ true → 1 ≤ n
some_resident c n line h there =
    omega (arith, h.counted, count_dropped c.orders line h.sound.ordered (in_set c h.sound line ∙ there))

-- nothing is resident in a new cache
pub absent_at : {A : Type 0} (d : A) (n i : ℕ) → slice_index_or (replicate n d) i d ≡ d
absent_at d zero i = refl
absent_at d (suc n) zero = refl
absent_at d (suc n) (suc i) = absent_at d n i

pub held_empty : (capacity lines : ℕ) (o : LineOrders) → o ≡ empty_orders lines → IsOrdered o → 1 ≤ capacity →
    HasResident (record { capacity = capacity; copies = replicate lines None; leaving = replicate lines false; orders = o }) 0
held_empty capacity lines o e s some =
    let s' = rw e at s in
    rw e (record {
      sound = record {
        ordered = s';
        copied = length-replicate {A = Option (List ℕ)} lines None;
        flagged = length-replicate lines false;
        whole = λ j b h. let no = rw (absent_at {A = Option (List ℕ)} None lines j) at h in cc;
        recent = λ j k. rw (absent_at {A = Option (List ℕ)} None lines j, absent_at {A = List ℕ} [] 8 k) refl;
        dirty = λ j h. cc;
        marked = λ k j h. let no : has j [] ≡ true = rw (absent_at {A = List ℕ} [] 8 k) at h in cc;
        leaves = λ j h. let no : false ≡ true = rw (absent_at false lines j) at h in cc;
        some = some;
        fits = omega arith;
      };
      counted = refl;
    })
