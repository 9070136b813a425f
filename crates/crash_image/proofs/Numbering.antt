-- The cut of a number, found from its highest line down, and cuts by the bounds of the stored lines.
use Rattle.std.proofs.Common.{◌≡◌, ℕ, suc, ◌+◌, ◌-◌, ◌*◌, ◌/◌, ◌%◌, ◌<◌, ◌≤◌, List, [], ◌∷◌, ◌++◌, length, get_or, drop, reverse, refl, ap, ◌∙◌, sym, subst, arith}
use Rattle.std.specs.Prelude.{map, slice_index_or}
use Rattle.std.proofs.Math.Nat.{div-div-eq-div-mul, mod-eq_of_lt, mod-lt, div-one}
use Rattle.std.proofs.Math.Arith.{mod-mul}
use Rattle.std.proofs.Math.Seq.{drop-cons}
use Rattle.std.proofs.lemmas.Grind.{common_steps}
use Rattle.std.proofs.lemmas.Nat.{div-mul-add, mod-mul-add}
use Rattle.std.proofs.lemmas.List.{reverse-append, get_or-map, length-map, same_lists}
use Rattle.store_trace.proofs.Radix.{radix_cut, cuts_at, cut_of_number}
use Rattle.store_trace.specs.Cut.{IsCut, count_of, cut_count, cuts, stored_lines}
use Rattle.store_trace.specs.Floor.{floor}
use Rattle.store_trace.specs.declared.crash_model.step.PersistenceStep.{PersistenceStep}
use Rattle.crash_image.proofs.Counting.{product_lines, zero_lt_product}
use Rattle.crash_image.specs.Bounds.{Allows, Fits, bounds_at, stored_bounds, numbers_of, product_of, cut_from}
use Rattle.crash_image.specs.declared.bounds.LineBounds.{LineBounds}

cut_from_lines : (p : List PersistenceStep) (ls : List ℕ) (n : ℕ) → cut_from (map (λ l. bounds_at p l) ls) n ≡ radix_cut p ls n
cut_from_lines p [] n = refl
cut_from_lines p (l ∷ ls) n = rw (product_lines p ls)
    (ap (λ (c : List (ℕ × ℕ)). (l, floor l p + n / count_of p ls) ∷ c) (cut_from_lines p ls (n % count_of p ls)))

pub cut_at : (p : List PersistenceStep) (n : ℕ) (entries : List (ℕ × ℕ)) → n < cut_count p → entries ≡ cut_from (stored_bounds p) n →
    (entries ≡ slice_index_or (cuts p) n []) × IsCut p entries
cut_at p n entries h e =
    let radix : entries ≡ radix_cut p (stored_lines p) n = e ∙ cut_from_lines p (stored_lines p) n in
    (radix ∙ sym (cuts_at p n h), rw radix (cut_of_number p n h))

-- the further line of the cut, and the number that is left for the lines below it
next_cut : (b : LineBounds) (bs : List LineBounds) (n : ℕ) →
    cut_from (b ∷ bs) (n % product_of (b ∷ bs)) ≡ (b.line, b.floor + n / product_of bs % numbers_of b) ∷ cut_from bs (n % product_of bs)
next_cut b bs n =
    let many : 0 < numbers_of b = omega arith in
    let some : 0 < product_of bs = zero_lt_product bs in
    let small : n % product_of bs < product_of bs = mod-lt n some in
    rw (
      mod-mul n many some,
      div-mul-add (n / product_of bs % numbers_of b) (product_of bs) (n % product_of bs) small,
      mod-mul-add (n / product_of bs % numbers_of b) (product_of bs) (n % product_of bs) small,
    ) refl

next_rest : (b : LineBounds) (bs : List LineBounds) (n : ℕ) → n / product_of bs / numbers_of b ≡ n / product_of (b ∷ bs)
next_rest b bs n =
    div-div-eq-div-mul n (product_of bs) (numbers_of b)
    ∙ (let e : product_of bs * numbers_of b ≡ numbers_of b * product_of bs = omega arith in ap (λ (d : ℕ). n / d) e)

-- the numbers so far, the highest line's first
pub record IsNumbered (bs : List LineBounds) (n at : ℕ) (entries : List (ℕ × ℕ)) (rest : ℕ) : Type 0 where
  pub done : reverse entries ≡ cut_from (drop at bs) (n % product_of (drop at bs))
  pub left : rest ≡ n / product_of (drop at bs)

pub none_numbered : (bs : List LineBounds) (n : ℕ) → IsNumbered bs n (length bs) [] n
none_numbered bs n =
    let none : drop (length bs) bs ≡ [] = grind (arith, common_steps) in
    record { done = rw none refl; left = rw none (sym (div-one n)) }

pub one_numbered : (bs : List LineBounds) (n at rest : ℕ) (d : LineBounds) (entries : List (ℕ × ℕ)) → 0 < at → at ≤ length bs →
    IsNumbered bs n at entries rest →
    IsNumbered bs n (at - 1)
    (entries ++ ((get_or bs (at - 1) d).line, (get_or bs (at - 1) d).floor + rest % numbers_of (get_or bs (at - 1) d)) ∷ [])
    (rest / numbers_of (get_or bs (at - 1) d))
one_numbered bs n at rest d entries some within s =
    let b : LineBounds = get_or bs (at - 1) d in
    let up : suc (at - 1) ≡ at = omega (arith, some) in
    let next : drop (at - 1) bs ≡ b ∷ drop at bs =
    drop-cons bs (at - 1) d (omega (arith, some, within)) ∙ ap (λ (k : ℕ). b ∷ drop k bs) up in
    record {
      done = rw (next, s.left) (
          reverse-append entries ((b.line, b.floor + n / product_of (drop at bs) % numbers_of b) ∷ [])
          ∙ rw s.done (sym (next_cut b (drop at bs) n)));
      left = rw (next, s.left) (next_rest b (drop at bs) n);
    }

pub all_numbered : (bs : List LineBounds) (n rest : ℕ) (entries : List (ℕ × ℕ)) → n < product_of bs → IsNumbered bs n 0 entries rest →
    reverse entries ≡ cut_from bs n
all_numbered bs n rest entries h s = rw (mod-eq_of_lt h) at s.done

-- lists within the bounds are cuts, and cuts are within the bounds
bounds_line : (p : List PersistenceStep) (ls : List ℕ) (i m : ℕ) (b : LineBounds) → i < length ls →
    get_or (map (λ l. bounds_at p l) ls) i b ≡ bounds_at p (get_or ls i m)
bounds_line p ls i m b h = get_or-map (λ l. bounds_at p l) ls i m b h

pub cut_from_fits : (p : List PersistenceStep) (cut : List (ℕ × ℕ)) → Fits (stored_bounds p) cut → IsCut p cut
cut_from_fits p cut f =
    let many : length (stored_bounds p) ≡ length (stored_lines p) = length-map (stored_lines p) (λ l. bounds_at p l) in
    let len : length cut ≡ length (stored_lines p) = sym f.lines ∙ many in
    let at : (i m : ℕ) (e : ℕ × ℕ) → i < length cut → Allows (bounds_at p (get_or (stored_lines p) i m)) (get_or cut i e) =
    λ i m e h. subst (λ (b : LineBounds). Allows b (get_or cut i e))
    (bounds_line p (stored_lines p) i m (bounds_at p 0) (omega (arith, h, len))) (f.each i (bounds_at p 0) e (omega (arith, h, len, many))) in
    record {
      lines = same_lists (map (λ e. e.0) cut) (stored_lines p) (length-map cut (λ e. e.0) ∙ len)
          (λ i d h.
          let inside : i < length cut = omega (arith, h, length-map cut (λ (e : ℕ × ℕ). e.0)) in
          get_or-map (λ e. e.0) cut i (d, 0) d inside ∙ (at i d (d, 0) inside).0);
      low = λ i d h. rw ((at i 0 d h).0) ((at i 0 d h).1);
      high = λ i d h. rw ((at i 0 d h).0) ((at i 0 d h).2);
    }

pub fits_from_cut : (p : List PersistenceStep) (cut : List (ℕ × ℕ)) → IsCut p cut → Fits (stored_bounds p) cut
fits_from_cut p cut c =
    let many : length (stored_bounds p) ≡ length (stored_lines p) = length-map (stored_lines p) (λ l. bounds_at p l) in
    let len : length cut ≡ length (stored_lines p) = sym (length-map cut (λ e. e.0)) ∙ ap (λ (ls : List ℕ). length ls) c.lines in
    let line : (i m : ℕ) (e : ℕ × ℕ) → i < length cut → (get_or cut i e).0 ≡ get_or (stored_lines p) i m =
    λ i m e h. sym (get_or-map (λ e. e.0) cut i e m h) ∙ ap (λ (ls : List ℕ). get_or ls i m) c.lines in
    record {
      lines = many ∙ sym len;
      each = λ i b e h.
          let inside : i < length cut = omega (arith, h, len, many) in
          rw (bounds_line p (stored_lines p) i 0 b (omega (arith, h, many))) (
            line i 0 e inside,
            rw (← line i 0 e inside) (c.low i e inside),
            rw (← line i 0 e inside) (c.high i e inside),
          );
    }
