-- Lists of slots, with the line of each in its place.
use Rattle.std.proofs.Common.{◌≡◌, ℕ, zero, suc, ◌<◌, true, cond, eqb, Option, Some, None, List, [], ◌∷◌, length, map, refl, ap, inl, inr, ◌∙◌, sym, arith, slice_index_or, slice_set}
use Rattle.std.proofs.lemmas.Bool.Decides.{nat_tests}
use Rattle.std.proofs.lemmas.Bool.{cases_Bool}
use Rattle.std.proofs.lemmas.List.{map-append, length-map, length-set, get_or-map, ext_get_or}
use Rattle.std.specs.Option.{option_or, option_map}
use Rattle.index_list.specs.Lists.{has, without, first, last, end_of, IsDistinct}
use Rattle.lru_cache.specs.Order.{list_with, oldest_of_first}
use Rattle.lru_cache.proofs.Places.{at_put}

pub has-map : (f : ℕ → ℕ) (x : ℕ) (xs : List ℕ) → has x xs ≡ true → has (f x) (map f xs) ≡ true
has-map f x [] h = cc
has-map f x (y ∷ ys) h = grind (arith, nat_tests, has-map f x ys)

pub first-map : (f : ℕ → ℕ) (xs : List ℕ) → first (map f xs) ≡ option_map f (first xs)
first-map f [] = refl
first-map f (x ∷ xs) = refl

end_of-map : (f : ℕ → ℕ) (p : ℕ) (xs : List ℕ) → end_of (f p) (map f xs) ≡ f (end_of p xs)
end_of-map f p [] = refl
end_of-map f p (x ∷ xs) = end_of-map f x xs

pub last-map : (f : ℕ → ℕ) (xs : List ℕ) → last (map f xs) ≡ option_map f (last xs)
last-map f [] = refl
last-map f (x ∷ xs) = ap (λ (l : ℕ). Some l) (end_of-map f x xs)

pub either-map : (f : ℕ → ℕ) (o p : Option ℕ) → option_or (option_map f o) (option_map f p) ≡ option_map f (option_or o p)
either-map f None p = refl
either-map f (Some x) p = refl

pub oldest-map : (f : ℕ → ℕ) (sets : List (List ℕ)) → oldest_of_first (map (map f) sets) ≡ option_map f (oldest_of_first sets)
oldest-map f [] = refl
oldest-map f (l ∷ ls) = rw (last-map f l, oldest-map f ls) (either-map f (last l) (oldest_of_first ls))

pub list-map : (f : ℕ → ℕ) (lists : List (List ℕ)) (k : ℕ) → slice_index_or (map (map f) lists) k [] ≡ map f (slice_index_or lists k [])
list-map f [] k = refl
list-map f (l ∷ ls) zero = refl
list-map f (l ∷ ls) (suc k) = list-map f ls k

-- the same names
pub agree : (f g : ℕ → ℕ) (xs : List ℕ) → ((x : ℕ) → has x xs ≡ true → f x ≡ g x) → map f xs ≡ map g xs
agree f g [] each = refl
agree f g (x ∷ xs) each =
    let here : f x ≡ g x = each x (grind (arith, nat_tests)) in
    let rest : map f xs ≡ map g xs = agree f g xs (λ y h. each y (grind (arith, nat_tests))) in
    cc

pub each_agree : (f g : ℕ → ℕ) (lists : List (List ℕ)) → ((k x : ℕ) → has x (slice_index_or lists k []) ≡ true → f x ≡ g x) →
    map (map f) lists ≡ map (map g) lists
each_agree f g [] each = refl
each_agree f g (l ∷ ls) each =
    let here : map f l ≡ map g l = agree f g l (each 0) in
    let rest : map (map f) ls ≡ map (map g) ls = each_agree f g ls (λ k. each (suc k)) in
    cc

-- a line that is the name of this slot alone
module _ (f : ℕ → ℕ) (slot line : ℕ) where
  pub has-named : (xs : List ℕ) → ((x : ℕ) → has x xs ≡ true → eqb line (f x) ≡ eqb slot x) → has line (map f xs) ≡ has slot xs
  has-named [] own = refl
  has-named (x ∷ xs) own = grind (arith, nat_tests, own x, has-named xs (λ y h. own y (grind (arith, nat_tests))))

  pub without-named : (xs : List ℕ) → ((x : ℕ) → has x xs ≡ true → eqb line (f x) ≡ eqb slot x) → map f (without slot xs) ≡ without line (map f xs)
  without-named [] own = refl
  without-named (x ∷ xs) own =
      let here : eqb line (f x) ≡ eqb slot x = own x (grind (arith, nat_tests)) in
      let rest : map f (without slot xs) ≡ without line (map f xs) = without-named xs (λ y h. own y (grind (arith, nat_tests))) in
      grind (arith, nat_tests)

  pub with-named : (xs : List ℕ) → f slot ≡ line → ((x : ℕ) → has x xs ≡ true → eqb line (f x) ≡ eqb slot x) → map f (list_with slot xs) ≡ list_with line (map f xs)
  with-named xs e own = elim (cases_Bool (has slot xs)) [
    | inl there ↦ rw (has-named xs own, there) refl
    | inr absent ↦ rw (has-named xs own, absent, ← e) (map-append f xs (slot ∷ []))
  ]

  pub each-without-named : (lists : List (List ℕ)) → ((k x : ℕ) → has x (slice_index_or lists k []) ≡ true → eqb line (f x) ≡ eqb slot x) →
      map (map f) (map (without slot) lists) ≡ map (without line) (map (map f) lists)
  each-without-named [] own = refl
  each-without-named (l ∷ ls) own =
      let here : map f (without slot l) ≡ without line (map f l) = without-named l (own 0) in
      let rest : map (map f) (map (without slot) ls) ≡ map (without line) (map (map f) ls) = each-without-named ls (λ k. own (suc k)) in
      cc

pub distinct_from_map : (f : ℕ → ℕ) (xs : List ℕ) → IsDistinct (map f xs) → IsDistinct xs
distinct_from_map f [] d = tt
distinct_from_map f (x ∷ xs) d = (grind (arith, nat_tests, has-map f x xs, d.0), distinct_from_map f xs d.1)

-- a line with its new value, where the others have what they had
pub map-put : {A : Type 0} (d : A) (f g : ℕ → A) (ns ms : List ℕ) (i : ℕ) (v : A) → length ms ≡ length ns → i < length ns →
    ((j : ℕ) → j < length ns → f (slice_index_or ms j 0) ≡ cond (eqb j i) v (g (slice_index_or ns j 0))) → map f ms ≡ slice_set (map g ns) i v
map-put {A = A} d f g ns ms i v e low each =
    let left : length (map f ms) ≡ length ns = length-map ms f ∙ e in
    let right : length (slice_set (map g ns) i v) ≡ length ns = length-set (map g ns) i v ∙ length-map ns g in
    ext_get_or d (map f ms) (slice_set (map g ns) i v) (left ∙ sym right)
    (λ j h.
    let below : j < length ns = omega arith in
    get_or-map f ms j 0 d (omega arith) ∙ each j below
    ∙ ap (λ (w : A). cond (eqb j i) v w) (sym (get_or-map g ns j 0 d below))
    ∙ sym (at_put d v (map g ns) i j (omega (arith, length-map ns g))))
