-- The line that a use evicts: it is resident, and where there is none there is room.
use Rattle.std.proofs.Common.{◌≡◌, ℕ, zero, suc, ◌+◌, ◌<◌, ◌≤◌, Bool, true, Option, Some, None, IfSome, List, [], ◌∷◌, length, refl, add-one, ◌∙◌, arith, slice_index_or, drop, sum_by}
use Rattle.std.specs.Option.{option_or}
use Rattle.std.proofs.lemmas.Bool.Decides.{nat_tests}
use Rattle.std.proofs.lemmas.List.Sums.{sum_by-cons}
use Rattle.index_list.specs.Lists.{has, last, end_of}
use Rattle.index_list.proofs.Members.{has-end_of}
use Rattle.lru_cache.specs.Order.{recent_in, resident_count, oldest_of_first, order_after_drop}
use Rattle.lru_cache.specs.Cache.{CacheView, IsCache, is_resident}
use Rattle.lru_cache.proofs.Keeps.{count_dropped, in_set}

-- one more set was looked at
oldest-drop_suc : (sets : List (List ℕ)) (i : ℕ) → i < length sets →
    oldest_of_first (drop i sets) ≡ option_or (last (slice_index_or sets i [])) (oldest_of_first (drop (suc i) sets))
oldest-drop_suc [] i h = absurd (omega arith)
oldest-drop_suc (l ∷ ls) zero h = refl
oldest-drop_suc (l ∷ ls) (suc i) h = oldest-drop_suc ls i (omega arith)

pub oldest-drop : (sets : List (List ℕ)) (i : ℕ) → i < length sets →
    oldest_of_first (drop i sets) ≡ option_or (last (slice_index_or sets i [])) (oldest_of_first (drop (i + 1) sets))
oldest-drop sets i h = rw add-one (oldest-drop_suc sets i h)

pub oldest-drop_all : (sets : List (List ℕ)) (i : ℕ) → length sets ≤ i → oldest_of_first (drop i sets) ≡ None
oldest-drop_all [] zero h = refl
oldest-drop_all [] (suc i) h = refl
oldest-drop_all (l ∷ ls) zero h = absurd (omega arith)
oldest-drop_all (l ∷ ls) (suc i) h = oldest-drop_all ls i (omega arith)

pub ruleset oldest_steps = (oldest-drop, oldest-drop_all)

-- no set has a line
none_last : (l : List ℕ) → last l ≡ None → length l ≡ 0
none_last [] h = refl
none_last (x ∷ xs) h = cc

pub none_both : (o p : Option ℕ) → option_or o p ≡ None → (o ≡ None) × (p ≡ None)
none_both None p h = (refl, h)
none_both (Some x) p h = cc

pub none_oldest : (sets : List (List ℕ)) → oldest_of_first sets ≡ None → sum_by length sets ≡ 0
none_oldest [] h = refl
none_oldest (l ∷ ls) h =
    let both = none_both (last l) (oldest_of_first ls) h in
    omega (arith, sum_by-cons length l ls, none_last l both.0, none_oldest ls both.1)

-- what holds of each line of a set holds of the one that is named
pub of_either : (p : ℕ → Bool) (o q : Option ℕ) → IfSome o (λ v. p v ≡ true) → IfSome q (λ v. p v ≡ true) → IfSome (option_or o q) (λ v. p v ≡ true)
of_either p None q h k = k
of_either p (Some x) q h k = h

of_last : (p : ℕ → Bool) (l : List ℕ) → ((v : ℕ) → has v l ≡ true → p v ≡ true) → IfSome (last l) (λ v. p v ≡ true)
of_last p [] each = tt
of_last p (x ∷ xs) each = each (end_of x xs) (has-end_of x xs)

of_oldest : (p : ℕ → Bool) (sets : List (List ℕ)) → ((k v : ℕ) → has v (slice_index_or sets k []) ≡ true → p v ≡ true) →
    IfSome (oldest_of_first sets) (λ v. p v ≡ true)
of_oldest p [] each = tt
of_oldest p (l ∷ ls) each =
    of_either p (last l) (oldest_of_first ls) (of_last p l (λ v h. each 0 v h)) (of_oldest p ls (λ k v h. each (suc k) v h))

module _ (c : CacheView) (s : IsCache c) where
  in_any : (k v : ℕ) → has v (recent_in c.orders k) ≡ true → is_resident c v ≡ true
  in_any k v h = grind (arith, nat_tests, s.recent v k)

  pub oldest_resident : (set : ℕ) → IfSome (last (recent_in c.orders set)) (λ v. is_resident c v ≡ true)
  oldest_resident set = of_last (is_resident c) (recent_in c.orders set) (λ v h. in_any set v h)

  pub first_resident : IfSome (oldest_of_first c.orders.recency) (λ v. is_resident c v ≡ true)
  first_resident = of_oldest (is_resident c) c.orders.recency (λ k v h. in_any k v h)

  -- a full cache has a line
  pub room_from_none : oldest_of_first c.orders.recency ≡ None → resident_count c.orders + 1 ≤ c.capacity
  room_from_none none = omega (arith, none_oldest c.orders.recency none, s.some)

  pub room_evicted : (v : ℕ) → is_resident c v ≡ true → resident_count (order_after_drop v c.orders) + 1 ≤ c.capacity
  room_evicted v there = omega (arith, s.fits, count_dropped c.orders v s.ordered (in_set c s v ∙ there))
