-- What stands in a list after a change, for any list of numbers.
use Rattle.std.proofs.Common.{◌≡◌, ℕ, ◌+◌, ◌<◌, ◌≤◌, true, false, ◌||◌, eqb, List, [], ◌∷◌, ◌++◌, length, cond, refl, arith, ap, zero, suc, slice_set, Option, Some, None, IfSome}
use Rattle.std.specs.List.{list_any, IsDistinct as IsDistinctBy, AllByRecursion}
use Rattle.std.proofs.lemmas.Bool.Decides.{nat_tests}
use Rattle.std.proofs.lemmas.Grind.{common_steps}
use Rattle.std.proofs.lemmas.Map.Steps.{length-le_from_distinct_below}
use Rattle.index_list.specs.Lists.{has, without, first, last, after, end_of, IsDistinct, AllBelow}

pub has-push : (j i : ℕ) (xs : List ℕ) → has j (xs ++ i ∷ []) ≡ (has j xs || eqb j i)
has-push j i [] = grind (arith, nat_tests)
has-push j i (x ∷ xs) = grind (arith, nat_tests, has-push j i xs)

pub has-without : (j i : ℕ) (xs : List ℕ) → IsDistinct xs → has j (without i xs) ≡ cond (eqb j i) false (has j xs)
has-without j i [] d = grind (arith, nat_tests)
has-without j i (x ∷ xs) d = grind (arith, nat_tests, has-without j i xs d.1, d.0)

-- a number that isn't there: taking it out changes nothing
pub without_absent : (i : ℕ) (xs : List ℕ) → has i xs ≡ false → without i xs ≡ xs
without_absent i [] h = refl
without_absent i (x ∷ xs) h = grind (arith, nat_tests, without_absent i xs)

pub length-without : (i : ℕ) (xs : List ℕ) → has i xs ≡ true → length (without i xs) + 1 ≡ length xs
length-without i [] h = cc
length-without i (x ∷ xs) h = grind (arith, nat_tests, length-without i xs)

pub IsDistinct-without : (i : ℕ) (xs : List ℕ) → IsDistinct xs → IsDistinct (without i xs)
IsDistinct-without i [] d = tt
IsDistinct-without i (x ∷ xs) d =
    elim (eqb i x) as (λ b. IsDistinct (cond b xs (x ∷ without i xs))) [ true ↦ d.1 | false ↦ (grind (arith, nat_tests, has-without x i xs d.1, d.0), IsDistinct-without i xs d.1) ]

pub IsDistinct-push : (i : ℕ) (xs : List ℕ) → IsDistinct xs → has i xs ≡ false → IsDistinct (xs ++ i ∷ [])
IsDistinct-push i [] d h = (refl, tt)
IsDistinct-push i (x ∷ xs) d h =
    (grind (arith, nat_tests, has-push x i xs, d.0), IsDistinct-push i xs d.1 (grind (arith, nat_tests)))

pub AllBelow-without : (n i : ℕ) (xs : List ℕ) → AllBelow n xs → AllBelow n (without i xs)
AllBelow-without n i [] b = tt
AllBelow-without n i (x ∷ xs) b =
    elim (eqb i x) as (λ t. AllBelow n (cond t xs (x ∷ without i xs))) [ true ↦ b.1 | false ↦ (b.0, AllBelow-without n i xs b.1) ]

pub AllBelow-push : (n i : ℕ) (xs : List ℕ) → AllBelow n xs → i < n → AllBelow n (xs ++ i ∷ [])
AllBelow-push n i [] b h = (h, tt)
AllBelow-push n i (x ∷ xs) b h = (b.0, AllBelow-push n i xs b.1 h)

pub AllBelow-more : (n : ℕ) (xs : List ℕ) → AllBelow n xs → AllBelow (n + 1) xs
AllBelow-more n [] b = tt
AllBelow-more n (x ∷ xs) b = (omega (arith, b.0), AllBelow-more n xs b.1)

pub below_from_has : (n i : ℕ) (xs : List ℕ) → AllBelow n xs → has i xs ≡ true → i < n
below_from_has n i [] b h = cc
below_from_has n i (x ∷ xs) b h = grind (arith, nat_tests, below_from_has n i xs b.1, b.0)

-- a number that is at least n stands in no list below n
pub has_beyond : (n i : ℕ) (xs : List ℕ) → AllBelow n xs → n ≤ i → has i xs ≡ false
has_beyond n i [] b h = refl
has_beyond n i (x ∷ xs) b h = grind (arith, nat_tests, has_beyond n i xs b.1 h, b.0)

-- `has` by the word of std
any_from_has : (i : ℕ) (xs : List ℕ) → list_any (eqb i) xs ≡ has i xs
any_from_has i [] = refl
any_from_has i (x ∷ xs) = grind (arith, nat_tests, any_from_has i xs)

each_differs : (x : ℕ) (xs : List ℕ) → has x xs ≡ false → AllByRecursion (λ y. eqb x y ≡ false) xs
each_differs x [] h = tt
each_differs x (y ∷ ys) h = (grind (arith, nat_tests), each_differs x ys (grind (arith, nat_tests)))

distinct_by : (xs : List ℕ) → IsDistinct xs → IsDistinctBy eqb xs
unfolding IsDistinctBy
distinct_by [] d = tt
distinct_by (x ∷ xs) d = (each_differs x xs d.0, distinct_by xs d.1)

pub length-le_from_distinct : (n : ℕ) (xs : List ℕ) → IsDistinct xs → ((i : ℕ) → has i xs ≡ true → i < n) → length xs ≤ n
length-le_from_distinct n xs d b =
    length-le_from_distinct_below xs n (distinct_by xs d) (λ q h. b q (grind (arith, any_from_has q xs)))

-- what an answer names stands in the list
pub has-first : (xs : List ℕ) → IfSome (first xs) (λ i. has i xs ≡ true)
has-first [] = tt
has-first (x ∷ xs) = grind (arith, nat_tests)

pub has-end_of : (p : ℕ) (xs : List ℕ) → has (end_of p xs) (p ∷ xs) ≡ true
has-end_of p [] = grind (arith, nat_tests)
has-end_of p (x ∷ xs) = grind (arith, nat_tests, has-end_of x xs)

pub has-last : (xs : List ℕ) → IfSome (last xs) (λ i. has i xs ≡ true)
has-last [] = tt
has-last (x ∷ xs) = has-end_of x xs

IfSome_more : (o : Option ℕ) (x : ℕ) (xs : List ℕ) → IfSome o (λ i. has i xs ≡ true) → IfSome o (λ i. has i (x ∷ xs) ≡ true)
IfSome_more None x xs h = tt
IfSome_more (Some i) x xs h = grind (arith, nat_tests)

pub has-after : (i : ℕ) (xs : List ℕ) → IfSome (after i xs) (λ j. has j xs ≡ true)
has-after i [] = tt
has-after i (x ∷ xs) =
    elim (eqb i x) as (λ b. IfSome (cond b (first xs) (after i xs)) (λ j. has j (x ∷ xs) ≡ true)) [ true ↦ IfSome_more (first xs) x xs (has-first xs) | false ↦ IfSome_more (after i xs) x xs (has-after i xs) ]

-- the second of two writes to one list counts
pub set_again : (lists : List (List ℕ)) (k : ℕ) (xs ys : List ℕ) → slice_set (slice_set lists k xs) k ys ≡ slice_set lists k ys
set_again [] k xs ys = refl
set_again (l ∷ ls) zero xs ys = refl
set_again (l ∷ ls) (suc k) xs ys = ap (λ (rest : List (List ℕ)). l ∷ rest) (set_again ls k xs ys)

-- what a caller of an arena needs of its lists
pub ruleset list_steps = (common_steps, set_again, has-push, has-without, without_absent, length-without, IsDistinct-without, IsDistinct-push)
