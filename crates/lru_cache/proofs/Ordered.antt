-- No line stands twice in any order, after each change.
use Rattle.std.proofs.Common.{ℕ, zero, suc, List, [], ◌∷◌, inl, inr, ◌∙◌, arith, slice_index_or, slice_set}
use Rattle.std.proofs.lemmas.Bool.Decides.{nat_tests}
use Rattle.std.proofs.lemmas.Bool.{cases_Bool}
use Rattle.std.proofs.lemmas.List.{length-set, length-map}
use Rattle.index_list.specs.Lists.{has, without, IsDistinct}
use Rattle.index_list.proofs.Members.{has-without, IsDistinct-without, IsDistinct-push}
use Rattle.lru_cache.specs.Order.{LineOrders, IsOrdered, set_of, recent_in, marked_in, list_with, order_after_use, order_after_drop, order_after_store, order_after_write_back, order_after_mark}
use Rattle.lru_cache.proofs.Places.{at_map_without}

-- one list of several is another
each_distinct : (lists : List (List ℕ)) (k j : ℕ) (xs : List ℕ) → IsDistinct xs → IsDistinct (slice_index_or lists j []) →
    IsDistinct (slice_index_or (slice_set lists k xs) j [])
each_distinct [] k j xs new old = old
each_distinct (l ∷ ls) zero zero xs new old = new
each_distinct (l ∷ ls) zero (suc j) xs new old = old
each_distinct (l ∷ ls) (suc k) zero xs new old = old
each_distinct (l ∷ ls) (suc k) (suc j) xs new old = each_distinct ls k j xs new old

once_in_front : (line : ℕ) (xs : List ℕ) → IsDistinct xs → IsDistinct (line ∷ without line xs)
once_in_front line xs d = (grind (arith, nat_tests, has-without line line xs d), IsDistinct-without line xs d)

once_with : (line : ℕ) (xs : List ℕ) → IsDistinct xs → IsDistinct (list_with line xs)
once_with line xs d = elim (cases_Bool (has line xs)) [
  | inl there ↦ rw there d
  | inr absent ↦ rw absent (IsDistinct-push line xs d absent)
]

module _ (o : LineOrders) (s : IsOrdered o) (line : ℕ) where
  pub ordered_use : IsOrdered (order_after_use line o)
  ordered_use = record {
    sets = length-set o.recency (set_of line) (line ∷ without line (recent_in o (set_of line))) ∙ s.sets;
    marks = s.marks;
    recent_once = λ k. each_distinct o.recency (set_of line) k (line ∷ without line (recent_in o (set_of line))) (once_in_front line (recent_in o (set_of line)) (s.recent_once (set_of line))) (s.recent_once k);
    dirty_once = s.dirty_once;
    marked_once = s.marked_once;
  }

  pub ordered_drop : IsOrdered (order_after_drop line o)
  ordered_drop = record {
    sets = length-set o.recency (set_of line) (without line (recent_in o (set_of line))) ∙ s.sets;
    marks = s.marks;
    recent_once = λ k. each_distinct o.recency (set_of line) k (without line (recent_in o (set_of line))) (IsDistinct-without line (recent_in o (set_of line)) (s.recent_once (set_of line))) (s.recent_once k);
    dirty_once = s.dirty_once;
    marked_once = s.marked_once;
  }

  pub ordered_store : IsOrdered (order_after_store line o)
  ordered_store = record {
    sets = s.sets;
    marks = s.marks;
    recent_once = s.recent_once;
    dirty_once = once_with line o.dirty s.dirty_once;
    marked_once = s.marked_once;
  }

  pub ordered_write_back : IsOrdered (order_after_write_back line o)
  ordered_write_back = record {
    sets = s.sets;
    marks = length-map o.marked (without line) ∙ s.marks;
    recent_once = s.recent_once;
    dirty_once = IsDistinct-without line o.dirty s.dirty_once;
    marked_once = λ k. rw (at_map_without line o.marked k) (IsDistinct-without line (marked_in o k) (s.marked_once k));
  }

  pub ordered_mark : (k : ℕ) → IsOrdered (order_after_mark k line o)
  ordered_mark k = record {
    sets = s.sets;
    marks = length-set o.marked k (list_with line (marked_in o k)) ∙ s.marks;
    recent_once = s.recent_once;
    dirty_once = s.dirty_once;
    marked_once = λ j. each_distinct o.marked k j (list_with line (marked_in o k)) (once_with line (marked_in o k) (s.marked_once k)) (s.marked_once j);
  }
