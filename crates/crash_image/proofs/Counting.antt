-- The product of how many numbers each line can stand at.
use Rattle.std.proofs.Common.{◌≡◌, ℕ, suc, ◌+◌, ◌*◌, ◌^◌, ◌<◌, ◌≤◌, List, [], ◌∷◌, length, get_or, drop, refl, ap, arith, mul-le-mul_right}
use Rattle.std.specs.Prelude.{All, map}
use Rattle.std.proofs.Math.Nat.{mul-pos, le-mul_of_pos_right}
use Rattle.std.proofs.Math.Seq.{drop-cons}
use Rattle.std.proofs.lemmas.List.{drop_all}
use Rattle.std.proofs.lemmas.List.Elements.{All-map}
use Rattle.store_trace.proofs.Bounds.{floor_le_stores}
use Rattle.store_trace.specs.Cut.{count_of, cut_count, stored_lines}
use Rattle.store_trace.specs.declared.crash_model.step.PersistenceStep.{PersistenceStep}
use Rattle.crash_image.specs.Bounds.{IsOrdered, bounds_at, stored_bounds, numbers_of, product_of}
use Rattle.crash_image.specs.declared.bounds.LineBounds.{LineBounds}

pub product_lines : (p : List PersistenceStep) (ls : List ℕ) → product_of (map (λ l. bounds_at p l) ls) ≡ count_of p ls
product_lines p [] = refl
product_lines p (l ∷ ls) = ap (λ (n : ℕ). numbers_of (bounds_at p l) * n) (product_lines p ls)

pub product_stored : (p : List PersistenceStep) → product_of (stored_bounds p) ≡ cut_count p
product_stored p = product_lines p (stored_lines p)

pub stored_ordered : (p : List PersistenceStep) → All IsOrdered (stored_bounds p)
stored_ordered p = All-map IsOrdered (λ l. bounds_at p l) (stored_lines p) (λ i d h. floor_le_stores (get_or (stored_lines p) i d) p)

pub zero_lt_product : (bs : List LineBounds) → 0 < product_of bs
zero_lt_product [] = omega arith
zero_lt_product (b ∷ bs) = let some : 0 < numbers_of b = omega arith in mul-pos some (zero_lt_product bs)

-- one line more
pub product_next : (bs : List LineBounds) (i count : ℕ) (d : LineBounds) → i < length bs →
    count * numbers_of (get_or bs i d) * product_of (drop (i + 1) bs) ≡ count * product_of (drop i bs)
product_next bs i count d h =
    let e : suc i ≡ i + 1 = omega arith in
    let next : drop i bs ≡ get_or bs i d ∷ drop (i + 1) bs = rw (← e) (drop-cons bs i d h) in
    rw next (omega arith)

-- the product so far is at most the whole
pub product_above : (bs : List LineBounds) (i count : ℕ) → count ≤ count * product_of (drop i bs)
product_above bs i count = le-mul_of_pos_right count (zero_lt_product (drop i bs))

pub product_passes : (bs : List LineBounds) (i count n : ℕ) (d : LineBounds) → i < length bs → n ≡ numbers_of (get_or bs i d) →
    count * product_of (drop i bs) ≡ product_of bs → 65536 < count * n → 65536 < product_of bs
product_passes bs i count n d h e all more =
    let above : 65536 < count * numbers_of (get_or bs i d) = rw e at more in
    omega (arith, above, all, product_next bs i count d h, product_above bs (i + 1) (count * numbers_of (get_or bs i d)))

pub product_all : (bs : List LineBounds) (i count : ℕ) → length bs ≤ i → count * product_of (drop i bs) ≡ product_of bs → count ≡ product_of bs
product_all bs i count h all =
    let none : drop i bs ≡ [] = drop_all i bs h in
    let one : count * 1 ≡ product_of bs = rw none at all in
    omega (arith, one)

-- a count within the limit times the numbers of one line
pub small_product : (count n : ℕ) → count ≤ 65536 → n ≤ 2 ^ 32 → count * n < 2 ^ 64
small_product count n few small = omega (arith, mul-le-mul_right {m = count} {n = 65536} n few, small)
