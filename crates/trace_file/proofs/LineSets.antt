-- A line that is added to others, which go upwards.
use Rattle.std.proofs.Common.{◌≡◌, ℕ, zero, suc, ◌+◌, ◌<◌, ◌≤◌, false, ◌||◌, List, [], ◌∷◌, Result, Ok, Err, length, get_or, refl, sym, ap, ◌∙◌, arith, eqb, ltb, inl, inr}
use Rattle.std.specs.Prelude.{◌≢◌, insert}
use Rattle.std.specs.List.{list_any}
use Rattle.std.specs.List.Sorted.{IsBinarySearchResult, IsStrictlyIncreasing}
use Rattle.std.specs.Ordering.{nat_cmp}
use Rattle.std.specs.Result.{MatchResult}
use Rattle.std.proofs.lemmas.Bool.{cases_Bool, cases_lt, eq-eqb, le-ltb, lt-ltb, ne_eqb}
use Rattle.std.proofs.lemmas.Bool.Decides.{nat_tests}
use Rattle.std.proofs.lemmas.List.Edits.{length-insert}
use Rattle.std.proofs.lemmas.List.Sorted.{searched}
use Rattle.store_trace.specs.Cut.{with_line}
use Rattle.trace_file.specs.Lines.{Has, IsPlaceOf, IsUpward, IsUpwardFrom}

-- what stands where, in lines that go upwards
least_at : (least : ℕ) (xs : List ℕ) (j : ℕ) → IsUpwardFrom least xs → j < length xs → least ≤ get_or xs j 0
least_at least [] j up inside = absurd (omega arith)
least_at least (x ∷ xs) zero up inside = up.0
least_at least (x ∷ xs) (suc j) up inside = omega (arith, up.0, least_at (x + 1) xs j up.1 (omega arith))

pub upward_at : (least : ℕ) (xs : List ℕ) (i j : ℕ) → IsUpwardFrom least xs → i ≤ j → j < length xs → get_or xs i 0 ≤ get_or xs j 0
upward_at least [] i j up le inside = absurd (omega arith)
upward_at least (x ∷ xs) zero zero up le inside = omega arith
upward_at least (x ∷ xs) zero (suc j) up le inside = omega (arith, least_at (x + 1) xs j up.1 (omega arith))
upward_at least (x ∷ xs) (suc i) zero up le inside = absurd (omega arith)
upward_at least (x ∷ xs) (suc i) (suc j) up le inside = upward_at (x + 1) xs i j up.1 (omega arith) (omega arith)

-- a line that is there
with_line_there : (x least : ℕ) (xs : List ℕ) (i : ℕ) → IsUpwardFrom least xs → i < length xs → get_or xs i 0 ≡ x → with_line x xs ≡ xs
with_line_there x least [] i up inside e = absurd (omega arith)
with_line_there x least (l ∷ ls) zero up inside e = rw (le-ltb x l (omega arith), eq-eqb x l (sym e)) refl
with_line_there x least (l ∷ ls) (suc i) up inside e =
    let above : l < x = omega (arith, least_at (l + 1) ls i up.1 (omega arith)) in
    rw (le-ltb x l (omega arith), ne_eqb x l (λ same. omega arith)) (ap (λ (rest : List ℕ). l ∷ rest) (with_line_there x (l + 1) ls i up.1 (omega arith) e))

-- and one that isn't
with_line_inserts : (x : ℕ) (xs : List ℕ) (i : ℕ) → i ≤ length xs → ((k : ℕ) → k < i → get_or xs k 0 < x)
    → ((k : ℕ) → i ≤ k → k < length xs → x < get_or xs k 0) → with_line x xs ≡ insert xs i x
with_line_inserts x [] zero inside below above = refl
with_line_inserts x [] (suc i) inside below above = absurd (omega arith)
with_line_inserts x (l ∷ ls) zero inside below above =
    let first : x < l = above zero (omega arith) (omega arith) in rw (lt-ltb x l first) refl
with_line_inserts x (l ∷ ls) (suc i) inside below above =
    let first : l < x = below zero (omega arith) in
    rw (le-ltb x l (omega arith), ne_eqb x l (λ same. omega arith))
    (ap (λ (rest : List ℕ). l ∷ rest)
    (with_line_inserts x ls i (omega arith) (λ k low. below (suc k) (omega arith)) (λ k low high. above (suc k) (omega arith) (omega arith))))

-- the lines still go upwards
upward_with : (least x : ℕ) (xs : List ℕ) → least ≤ x → IsUpwardFrom least xs → IsUpwardFrom least (with_line x xs)
upward_with least x [] low up = (low, tt)
upward_with least x (l ∷ ls) low up = elim (cases_Bool (ltb x l)) [
  | inl less ↦
      let under : x + 1 ≤ l = grind (arith, nat_tests, less) in
      rw less (low, (under, up.1))
  | inr not_less ↦ rw not_less (elim (cases_Bool (eqb x l)) [
    | inl same ↦ rw same up
    | inr other ↦
        let above : l + 1 ≤ x = grind (arith, nat_tests, not_less, other) in
        rw other (up.0, upward_with (l + 1) x ls above up.1)
  ])
]

pub upward_with_line : (x : ℕ) (xs : List ℕ) → IsUpward xs → IsUpward (with_line x xs)
upward_with_line x xs up = upward_with 0 x xs (omega arith) up

-- and the line is there, beside the others
pub has_with_line : (l m : ℕ) (ls : List ℕ) → list_any (λ (other : ℕ). eqb other l) (with_line m ls) ≡ (eqb m l || list_any (λ (other : ℕ). eqb other l) ls)
has_with_line l m [] = refl
has_with_line l m (x ∷ ls) = grind (arith, nat_tests, has_with_line l m ls)

-- what a search says of the lines with one more
pub search_says : (xs : List ℕ) (x : ℕ) (r : Result ℕ ℕ) → IsUpward xs → IsBinarySearchResult (λ y. nat_cmp y x) xs r
    → MatchResult r (λ i. with_line x xs ≡ xs) (IsPlaceOf xs x)
search_says xs x (Ok i) up h =
    let (inside, here) = searched xs x (Ok i) h (λ a b le within. upward_at 0 xs a b up le within) in
    with_line_there x 0 xs i up inside here
search_says xs x (Err i) up h =
    let (inside, below, above) = searched xs x (Err i) h (λ a b le within. upward_at 0 xs a b up le within) in
    record { inside = inside; inserts = with_line_inserts x xs i inside below above }

-- what a search says of a line among these
pub has_at : (xs : List ℕ) (i x : ℕ) → i < length xs → get_or xs i 0 ≡ x → Has xs x
has_at [] i x inside e = absurd (omega arith)
has_at (y ∷ ys) zero x inside e = rw (eq-eqb y x e) refl
has_at (y ∷ ys) (suc i) x inside e = grind (arith, nat_tests, has_at ys i x (omega arith) e)

pub has_none : (xs : List ℕ) (x : ℕ) → ((k : ℕ) → k < length xs → get_or xs k 0 ≢ x) → ¬ Has xs x
has_none [] x none has = absurd cc
has_none (y ∷ ys) x none has =
    let first : eqb y x ≡ false = ne_eqb y x (none zero (omega arith)) in
    has_none ys x (λ k inside. none (suc k) (omega arith)) (rw first at has)

pub rank_says : (xs : List ℕ) (x : ℕ) (r : Result ℕ ℕ) → IsUpward xs → IsBinarySearchResult (λ y. nat_cmp y x) xs r
    → MatchResult r (λ i. (i < length xs) × (get_or xs i 0 ≡ x)) (λ i. ¬ Has xs x)
rank_says xs x (Ok i) up h = searched xs x (Ok i) h (λ a b le within. upward_at 0 xs a b up le within)
rank_says xs x (Err i) up h =
    let (inside, below, above) = searched xs x (Err i) h (λ a b le within. upward_at 0 xs a b up le within) in
    has_none xs x (λ k within same. elim (cases_lt k i) [
      | inl low ↦ omega (arith, below k low)
      | inr high ↦ omega (arith, above k high within)
    ])

-- the same by what was found
pub rank_found : (xs : List ℕ) (x i : ℕ) → IsUpward xs → IsBinarySearchResult (λ y. nat_cmp y x) xs (Ok i) → (i < length xs) × (get_or xs i 0 ≡ x)
rank_found xs x i up h = rank_says xs x (Ok i) up h

pub rank_missing : (xs : List ℕ) (x i : ℕ) → IsUpward xs → IsBinarySearchResult (λ y. nat_cmp y x) xs (Err i) → ¬ Has xs x
rank_missing xs x i up h = rank_says xs x (Err i) up h

-- a line that is there
is_there : (xs : List ℕ) (x i : ℕ) → IsUpward xs → IsBinarySearchResult (λ y. nat_cmp y x) xs (Ok i) → with_line x xs ≡ xs
is_there xs x i up h = search_says xs x (Ok i) up h

pub there : (slice xs : List ℕ) (x i : ℕ) → slice ≡ xs → IsUpward xs → IsBinarySearchResult (λ y. nat_cmp y x) slice (Ok i) → xs ≡ with_line x xs
there slice xs x i same up h = sym (is_there xs x i up (rw same at h))

pub there_few : (slice xs : List ℕ) (x i : ℕ) → slice ≡ xs → IsUpward xs → IsBinarySearchResult (λ y. nat_cmp y x) slice (Ok i) → length slice ≤ 16384
    → length (with_line x xs) ≤ 16384
there_few slice xs x i same up h few =
    omega (arith, ap length (is_there xs x i up (rw same at h)), ap length same)

-- and one that isn't
pub place_of : (slice xs : List ℕ) (x i : ℕ) → slice ≡ xs → IsUpward xs → IsBinarySearchResult (λ y. nat_cmp y x) slice (Err i) → IsPlaceOf xs x i
place_of slice xs x i same up h = search_says xs x (Err i) up (rw same at h)

pub inserted : (old new : List ℕ) (x i : ℕ) → IsPlaceOf old x i → new ≡ insert old i x → new ≡ with_line x old
inserted old new x i place e = e ∙ sym place.inserts

pub inserted_few : (old : List ℕ) (x i : ℕ) → IsPlaceOf old x i → length old < 16384 → length (with_line x old) ≤ 16384
inserted_few old x i place room = omega (arith, ap length place.inserts, length-insert old i x place.inside)

pub no_room : (old : List ℕ) (x i : ℕ) → IsPlaceOf old x i → length old ≡ 16384 → 16384 < length (with_line x old)
no_room old x i place full = omega (arith, ap length place.inserts, length-insert old i x place.inside)

-- the same by neighbours
upward_increases : (least : ℕ) (xs : List ℕ) → IsUpwardFrom least xs → IsStrictlyIncreasing xs
upward_increases least [] up k inside = absurd (omega arith)
upward_increases least (x ∷ []) up k inside = absurd (omega arith)
upward_increases least (x ∷ (y ∷ xs)) up zero inside = omega (arith, up.1.0)
upward_increases least (x ∷ (y ∷ xs)) up (suc k) inside =
    let next : suc k + 1 ≡ suc (k + 1) = omega arith in
    rw next (upward_increases (x + 1) (y ∷ xs) up.1 k (omega arith))

pub increasing : (xs : List ℕ) → IsUpward xs → IsStrictlyIncreasing xs
increasing xs up = upward_increases 0 xs up
