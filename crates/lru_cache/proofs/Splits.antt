-- The orders of lines, by the lists of the arena that holds them.
use Rattle.std.proofs.Common.{◌≡◌, ℕ, true, zero, suc, ◌+◌, ◌<◌, ◌≤◌, List, [], ◌∷◌, Some, length, map, refl, sym, ap, ◌∙◌, arith, slice_index_or, slice_set, take, drop, nat_le, replicate, if◌then◌else◌}
use Rattle.std.proofs.lemmas.Bool.{eq-eqb, le-leb, lt-leb}
use Rattle.std.proofs.lemmas.List.{get_or-take, get_or-drop, get_or-map, get_or-set_same, get_or-set_other, set-get_or, take-set-le, drop-set-lt, drop-set-add, ext_get_or, length-take, length-drop, length-map}
use Rattle.std.proofs.Math.Seq.{take-set-lt}
use Rattle.index_list.specs.Lists.{Lists, first, has, without, with_list, IsDistinct, IsSound}
use Rattle.index_list.proofs.Members.{list_steps}
use Rattle.lru_cache.specs.Order.{LineOrders, IsOrdered, empty_orders, order_after_use, order_after_write_back, recent_in, set_of}
use Rattle.lru_cache.specs.Split.{orders_in}

pub same_orders : (n : ℕ) (r s : List (List ℕ)) (d e : List ℕ) (m o : List (List ℕ)) → r ≡ s → d ≡ e → m ≡ o →
    (let one : LineOrders = record { lines = n; recency = r; dirty = d; marked = m } in
    let other : LineOrders = record { lines = n; recency = s; dirty = e; marked = o } in one ≡ other)
same_orders n r s d e m o p q t = cc

-- which list an order is
pub lines_in : (a : Lists) → (orders_in a).lines ≡ a.nodes
unfolding orders_in
lines_in a = refl

pub recency_in : (a : Lists) (k : ℕ) → k < 8 → slice_index_or (orders_in a).recency k [] ≡ slice_index_or a.lists k []
unfolding orders_in
recency_in a k h = get_or-take 8 a.lists k [] h

pub dirty_in : (a : Lists) → (orders_in a).dirty ≡ slice_index_or a.lists 8 []
unfolding orders_in
dirty_in a = refl

pub marked_from : (a : Lists) (k : ℕ) → slice_index_or (orders_in a).marked k [] ≡ slice_index_or a.lists (9 + k) []
unfolding orders_in
marked_from a k = get_or-drop 9 a.lists k []

-- one list changes
pub recency_put : (a : Lists) (k : ℕ) (xs : List ℕ) → k < 8 →
    orders_in (with_list a k xs) ≡ record (orders_in a) { recency = slice_set (orders_in a).recency k xs }
unfolding orders_in
recency_put a k xs h =
    same_orders a.nodes (take 8 (slice_set a.lists k xs)) (slice_set (take 8 a.lists) k xs) (slice_index_or (slice_set a.lists k xs) 8 []) (slice_index_or a.lists 8 [])
    (drop 9 (slice_set a.lists k xs)) (drop 9 a.lists)
    (take-set-lt 8 a.lists k xs h) (get_or-set_other a.lists k 8 xs [] (omega arith)) (drop-set-lt 9 a.lists k xs (omega arith))

pub dirty_put : (a : Lists) (xs : List ℕ) → IsSound 17 a →
    orders_in (with_list a 8 xs) ≡ record (orders_in a) { dirty = xs }
unfolding orders_in
dirty_put a xs s =
    same_orders a.nodes (take 8 (slice_set a.lists 8 xs)) (take 8 a.lists) (slice_index_or (slice_set a.lists 8 xs) 8 []) xs
    (drop 9 (slice_set a.lists 8 xs)) (drop 9 a.lists)
    (take-set-le 8 a.lists 8 xs (omega arith)) (get_or-set_same a.lists 8 xs [] (omega (arith, s.counted))) (drop-set-lt 9 a.lists 8 xs (omega arith))

pub marked_put : (a : Lists) (k : ℕ) (xs : List ℕ) →
    orders_in (with_list a (9 + k) xs) ≡ record (orders_in a) { marked = slice_set (orders_in a).marked k xs }
unfolding orders_in
marked_put a k xs =
    same_orders a.nodes (take 8 (slice_set a.lists (9 + k) xs)) (take 8 a.lists) (slice_index_or (slice_set a.lists (9 + k) xs) 8 []) (slice_index_or a.lists 8 [])
    (drop 9 (slice_set a.lists (9 + k) xs)) (slice_set (drop 9 a.lists) k xs)
    (take-set-le 8 a.lists (9 + k) xs (omega arith)) (get_or-set_other a.lists (9 + k) 8 xs [] (omega arith)) (drop-set-add 9 a.lists k xs)

pub orders_empty : (n : ℕ) → orders_in (record { nodes = n; lists = replicate 17 [] }) ≡ empty_orders n
unfolding orders_in
orders_empty n = refl

-- the most recently used line of its set stays that by a use
again_first : (line : ℕ) (xs : List ℕ) → first xs ≡ Some line → line ∷ without line xs ≡ xs
again_first line [] e = cc
again_first line (x ∷ xs) e = let same : x ≡ line = cc in rw (same, eq-eqb line line refl) refl

pub used_again : (o : LineOrders) (line : ℕ) → first (recent_in o (set_of line)) ≡ Some line → order_after_use line o ≡ o
used_again o line e = rw (again_first line (recent_in o (set_of line)) e, set-get_or o.recency (set_of line) []) refl

pub latest_there : (o : LineOrders) (line : ℕ) → first (recent_in o (set_of line)) ≡ Some line → has line (recent_in o (set_of line)) ≡ true
latest_there o line e = rw (← again_first line (recent_in o (set_of line)) e, eq-eqb line line refl) refl

-- each list is sound
distinct_past : (xs : List (List ℕ)) (k : ℕ) → ((j : ℕ) → j < length xs → IsDistinct (slice_index_or xs j [])) → IsDistinct (slice_index_or xs k [])
distinct_past [] k each = tt
distinct_past (x ∷ xs) zero each = each 0 (omega arith)
distinct_past (x ∷ xs) (suc k) each = distinct_past xs k (λ j h. each (suc j) (omega arith))

pub ordered_in : (a : Lists) → IsSound 17 a → IsOrdered (orders_in a)
unfolding orders_in
ordered_in a s = record {
  sets = length-take 8 a.lists ∙ rw s.counted refl;
  marks = length-drop 9 a.lists ∙ rw s.counted refl;
  recent_once = λ k. distinct_past (take 8 a.lists) k (λ j h. rw (get_or-take 8 a.lists j [] (omega (arith, length-take 8 a.lists, s.counted))) (s.distinct j));
  dirty_once = s.distinct 8;
  marked_once = λ k. rw (get_or-drop 9 a.lists k []) (s.distinct (9 + k));
}

-- the line leaves every list from the dirty one on
pub orders_written : (a b : Lists) (line : ℕ) → IsSound 17 a → IsSound 17 b → b.nodes ≡ a.nodes →
    ((k : ℕ) → slice_index_or b.lists k [] ≡ (if nat_le 8 k then without line (slice_index_or a.lists k []) else slice_index_or a.lists k [])) →
    orders_in b ≡ order_after_write_back line (orders_in a)
unfolding orders_in
orders_written a b line s t n each =
    let below : (k : ℕ) → k < 8 → slice_index_or b.lists k [] ≡ slice_index_or a.lists k [] = λ k h. each k ∙ rw (lt-leb 8 k h) refl in
    let from : (k : ℕ) → 8 ≤ k → slice_index_or b.lists k [] ≡ without line (slice_index_or a.lists k []) = λ k h. each k ∙ rw (le-leb 8 k h) refl in
    let small_b : length (take 8 b.lists) ≡ 8 = length-take 8 b.lists ∙ rw t.counted refl in
    let small_a : length (take 8 a.lists) ≡ 8 = length-take 8 a.lists ∙ rw s.counted refl in
    let rest_b : length (drop 9 b.lists) ≡ 8 = length-drop 9 b.lists ∙ rw t.counted refl in
    let rest_a : length (drop 9 a.lists) ≡ 8 = length-drop 9 a.lists ∙ rw s.counted refl in
    let rest_m : length (map (without line) (drop 9 a.lists)) ≡ 8 = length-map (drop 9 a.lists) (without line) ∙ rest_a in
    let recency : take 8 b.lists ≡ take 8 a.lists =
    ext_get_or [] (take 8 b.lists) (take 8 a.lists) (small_b ∙ sym small_a) (λ i h.
    let j : i < 8 = omega arith in
    get_or-take 8 b.lists i [] j ∙ below i j ∙ sym (get_or-take 8 a.lists i [] j)) in
    let marked : drop 9 b.lists ≡ map (without line) (drop 9 a.lists) =
    ext_get_or [] (drop 9 b.lists) (map (without line) (drop 9 a.lists)) (rest_b ∙ sym rest_m) (λ i h.
    get_or-drop 9 b.lists i [] ∙ from (9 + i) (omega arith)
    ∙ ap (without line) (sym (get_or-drop 9 a.lists i []))
    ∙ sym (get_or-map (without line) (drop 9 a.lists) i [] [] (omega arith))) in
    rw n (same_orders a.nodes (take 8 b.lists) (take 8 a.lists) (slice_index_or b.lists 8 []) (without line (slice_index_or a.lists 8 []))
    (drop 9 b.lists) (map (without line) (drop 9 a.lists)) recency (from 8 (omega arith)) marked)

pub ruleset split_steps = (list_steps, set-get_or, lines_in, recency_in, dirty_in, marked_from, recency_put, dirty_put, marked_put, orders_empty, ordered_in, orders_written)
