-- How many lines can be resident: no more than a list has that names each of them.
use Rattle.std.proofs.Common.{◌≡◌, ℕ, suc, ◌+◌, ◌<◌, ◌≤◌, true, false, eqb, None, List, [], ◌∷◌, length, nat_lt, zero, refl, inl, inr, ◌∙◌, arith, slice_index_or, sum_by}
use Rattle.std.proofs.lemmas.Bool.{lt-ltb, cases_Bool}
use Rattle.std.proofs.lemmas.Bool.Decides.{nat_tests}
use Rattle.std.proofs.lemmas.List.Sums.{sum_by-cons}
use Rattle.index_list.specs.Lists.{has, without, IsDistinct}
use Rattle.index_list.proofs.Members.{length-without}
use Rattle.lru_cache.specs.Order.{resident_count}
use Rattle.lru_cache.specs.Cache.{CacheView, IsCache, is_resident, victim}

-- a list without each number of another
abbrev rest_of : List ℕ → List ℕ → List ℕ
rest_of [] used = used
rest_of (x ∷ xs) used = rest_of xs (without x used)

pub has_other : (x v : ℕ) (l : List ℕ) → eqb v x ≡ false → has v (without x l) ≡ has v l
has_other x v [] e = refl
has_other x v (y ∷ ys) e = grind (arith, nat_tests, has_other x v ys e)

has-rest_of : (l used : List ℕ) (v : ℕ) → has v l ≡ false → has v (rest_of l used) ≡ has v used
has-rest_of [] used v h = refl
has-rest_of (x ∷ xs) used v h = grind (arith, nat_tests, has-rest_of xs (without x used) v, has_other x v used)

length-rest_of : (l used : List ℕ) → IsDistinct l → ((v : ℕ) → has v l ≡ true → has v used ≡ true) →
    length (rest_of l used) + length l ≡ length used
length-rest_of [] used d each = omega arith
length-rest_of (x ∷ xs) used d each =
    let first : has x used ≡ true = each x (grind (arith, nat_tests)) in
    let rest = length-rest_of xs (without x used) d.1 (λ v h. grind (arith, nat_tests, d.0, each v, has_other x v used)) in
    omega (arith, length-without x used first, rest)

-- every number below n
abbrev pub numbers : ℕ → List ℕ
numbers zero = []
numbers (suc n) = n ∷ numbers n

pub has-numbers : (v n : ℕ) → has v (numbers n) ≡ nat_lt v n
has-numbers v zero = grind (arith, nat_tests)
has-numbers v (suc n) = grind (arith, nat_tests, has-numbers v n)

pub length-numbers : (n : ℕ) → length (numbers n) ≡ n
length-numbers zero = refl
length-numbers (suc n) = omega (arith, length-numbers n)

-- sets that have no line in common
count_within : (sets : List (List ℕ)) (used : List ℕ) → ((k : ℕ) → IsDistinct (slice_index_or sets k [])) →
    ((j k v : ℕ) → has v (slice_index_or sets j []) ≡ true → has v (slice_index_or sets k []) ≡ true → j ≡ k) →
    ((k v : ℕ) → has v (slice_index_or sets k []) ≡ true → has v used ≡ true) → sum_by length sets ≤ length used
count_within [] used once apart each = omega arith
count_within (l ∷ ls) used once apart each =
    let rest = count_within ls (rest_of l used) (λ k. once (suc k)) (λ j k v a b. let e : suc j ≡ suc k = apart (suc j) (suc k) v a b in omega arith)
    (λ k v h. has-rest_of l used v (not_first k v h) ∙ each (suc k) v h) in
    omega (arith, sum_by-cons length l ls, length-rest_of l used (once 0) (λ v h. each 0 v h), rest)
  where
    not_first : (k v : ℕ) → has v (slice_index_or ls k []) ≡ true → has v l ≡ false
    not_first k v h = elim (cases_Bool (has v l)) [
      | inl here ↦ absurd (let e : 0 ≡ suc k = apart 0 (suc k) v here h in omega arith)
      | inr gone ↦ gone
    ]

module _ (c : CacheView) (s : IsCache c) where
  pub resident_count-le : (used : List ℕ) → ((v : ℕ) → is_resident c v ≡ true → has v used ≡ true) → resident_count c.orders ≤ length used
  resident_count-le used each =
      count_within c.orders.recency used s.ordered.recent_once
      (λ j k v a b. grind (arith, nat_tests, s.recent v j, s.recent v k))
      (λ k v h. grind (arith, nat_tests, s.recent v k, each v))

  -- where a line isn't resident, fewer are than there are lines
  pub resident_count-lt : (n line : ℕ) → ((v : ℕ) → is_resident c v ≡ true → v < n) → line < n → is_resident c line ≡ false → resident_count c.orders + 1 ≤ n
  resident_count-lt n line below low absent =
      let there : has line (numbers n) ≡ true = grind (arith, nat_tests, has-numbers line n) in
      let fewer : resident_count c.orders ≤ length (without line (numbers n)) =
      resident_count-le (without line (numbers n)) (λ v h. grind (arith, nat_tests, below v, has-numbers v n, has_other line v (numbers n))) in
      omega (arith, length-without line (numbers n) there, length-numbers n)

  -- a cache that is large enough for all lines in use evicts none
  pub no_victim : (used : List ℕ) (line : ℕ) → length used ≤ c.capacity →
      ((v : ℕ) → is_resident c v ≡ true → has v used ≡ true) → has line used ≡ true → victim c line ≡ None
  no_victim used line fits each there = elim (cases_Bool (is_resident c line)) [
    | inl here ↦ rw here refl
    | inr gone ↦
        let fewer : resident_count c.orders ≤ length (without line used) =
        resident_count-le (without line used) (λ v h. grind (arith, nat_tests, each v, has_other line v used)) in
        let room : resident_count c.orders < c.capacity = omega (arith, length-without line used there) in
        rw (gone, lt-ltb (resident_count c.orders) c.capacity room) refl
  ]
