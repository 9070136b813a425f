-- One place of a list after a change, and lists that a change leaves as they are.
use Rattle.std.proofs.Common.{◌≡◌, ℕ, zero, suc, ◌<◌, false, ◌||◌, cond, eqb, List, [], ◌∷◌, length, map, refl, inl, inr, arith, slice_index_or, slice_set}
use Rattle.std.proofs.lemmas.Bool.{cases_eq, eq-eqb, ne_eqb}
use Rattle.std.proofs.lemmas.Bool.Decides.{nat_tests}
use Rattle.std.proofs.lemmas.List.{get_or-set_same, get_or-set_other, set-get_or}
use Rattle.index_list.specs.Lists.{has, without}
use Rattle.index_list.proofs.Members.{has-push, without_absent}
use Rattle.lru_cache.specs.Order.{list_with}

-- the element at a place after a write
pub at_put : {A : Type 0} (d y : A) (xs : List A) (i j : ℕ) → i < length xs →
    slice_index_or (slice_set xs i y) j d ≡ cond (eqb j i) y (slice_index_or xs j d)
at_put d y xs i j h = elim (cases_eq j i) [
  | inl e ↦ rw (eq-eqb j i e, e) (get_or-set_same xs i y d h)
  | inr ne ↦ rw (ne_eqb j i ne) (get_or-set_other xs i j y d ne)
]

-- a write of what stands past the end
cleared_self : {A : Type 0} (d : A) (xs : List A) (i : ℕ) → slice_index_or (slice_set xs i d) i d ≡ d
cleared_self d [] i = refl
cleared_self d (x ∷ xs) zero = refl
cleared_self d (x ∷ xs) (suc i) = cleared_self d xs i

pub at_cleared : {A : Type 0} (d : A) (xs : List A) (i j : ℕ) →
    slice_index_or (slice_set xs i d) j d ≡ cond (eqb j i) d (slice_index_or xs j d)
at_cleared d xs i j = elim (cases_eq j i) [
  | inl e ↦ rw (eq-eqb j i e, e) (cleared_self d xs i)
  | inr ne ↦ rw (ne_eqb j i ne) (get_or-set_other xs i j d d ne)
]

pub put_same : {A : Type 0} (d y : A) (xs : List A) (i : ℕ) → slice_index_or xs i d ≡ y → slice_set xs i y ≡ xs
put_same d y xs i h = rw (← h) (set-get_or xs i d)

-- a line taken out of each of some lists
pub at_map_without : (line : ℕ) (lists : List (List ℕ)) (k : ℕ) →
    slice_index_or (map (without line) lists) k [] ≡ without line (slice_index_or lists k [])
at_map_without line [] k = refl
at_map_without line (l ∷ ls) zero = refl
at_map_without line (l ∷ ls) (suc k) = at_map_without line ls k

pub map_without_absent : (line : ℕ) (lists : List (List ℕ)) → ((k : ℕ) → has line (slice_index_or lists k []) ≡ false) →
    map (without line) lists ≡ lists
map_without_absent line [] none = refl
map_without_absent line (l ∷ ls) none =
    let first : without line l ≡ l = without_absent line l (none 0) in
    let rest : map (without line) ls ≡ ls = map_without_absent line ls (λ k. none (suc k)) in
    cc

-- a line put in a list
pub has-list_with : (j line : ℕ) (xs : List ℕ) → has j (list_with line xs) ≡ (has j xs || eqb j line)
has-list_with j line xs = grind (arith, nat_tests, has-push j line xs)
