-- Of lost stores in the order of their lines, and of their numbers within a line, the first of each line.
use Rattle.std.proofs.Common.{◌≡◌, ℕ, suc, ◌+◌, ◌<◌, ◌≤◌, ◌==◌, Bool, true, false, inl, inr, List, [], ◌∷◌, length, get_or, refl, sym, subst, arith}
use Rattle.std.specs.Prelude.{All, AllPairs, Any, Contains, IsPermutation, nat_lt}
use Rattle.std.specs.List.{dedup, dedup_from}
use Rattle.std.specs.Ordering.{is_lt, nat_cmp, ordering_then}
use Rattle.std.proofs.lemmas.Bool.{cases_Bool}
use Rattle.std.proofs.lemmas.Bool.Decides.{nat_tests}
use Rattle.std.proofs.lemmas.List.Elements.{All-cons, All-head, All-nil, All-tail, All-weaker, Contains-get_or}
use Rattle.std.proofs.lemmas.List.Filters.{All-dedup}
use Rattle.std.proofs.lemmas.List.Kept.{AllPairs-cons, Contains-from_dedup}
use Rattle.std.proofs.lemmas.List.Sorted.{All-permutation, Contains-permutation, IsPermutation-sym}
use Rattle.durability.specs.Firsts.{AreFirsts}
use Rattle.durability.specs.declared.cut.Lost.{Lost}

-- a lower line, or the same one with a number that isn't higher
record NoLater (one other : Lost) : Type 0 where
  line : one.line ≤ other.line
  store : one.line ≡ other.line → one.store ≤ other.store

later_still : (x y z : Lost) → NoLater x y → NoLater y z → NoLater x z
later_still x y z p q = record {
  line = omega (arith, p.line, q.line);
  store = λ e.
      let xy : x.line ≡ y.line = omega (arith, e, p.line, q.line) in
      let yz : y.line ≡ z.line = omega (arith, e, p.line, q.line) in
      omega (arith, p.store xy, q.store yz);
}

pub no_less : (a b c d : ℕ) → is_lt (ordering_then (nat_cmp c a) (nat_cmp d b)) ≡ false → (a ≤ c) × (a ≡ c → b ≤ d)
no_less a b c d test = elim (cases_Bool (nat_lt c a)) [
  | inl less ↦
      let never : true ≡ false = rw less at test in
      cc
  | inr not_less ↦ elim (cases_Bool (c == a)) [
    | inl same ↦
        let then : is_lt (nat_cmp d b) ≡ false = rw (not_less, same) at test in (
          grind (arith, nat_tests, not_less),
          λ e. elim (cases_Bool (nat_lt d b)) [
            | inl below ↦
                let never : true ≡ false = rw below at then in
                cc
            | inr not_below ↦ grind (arith, nat_tests, not_below)
          ],
        )
    | inr other ↦ (grind (arith, nat_tests, not_less), λ e. absurd (grind (arith, nat_tests, other, e)))
  ]
]

abbrev InOrder : List Lost → Type 0
InOrder [] = Unit {0}
InOrder (x ∷ xs) = All (NoLater x) xs × InOrder xs

in_order : (xs : List Lost) → ((k : ℕ) (d : Lost) → k + 1 < length xs → NoLater (get_or xs k d) (get_or xs (k + 1) d)) → InOrder xs
in_order [] next = tt
in_order (x ∷ []) next = (All-nil (NoLater x), tt)
in_order (x ∷ (y ∷ ys)) next =
    let first : NoLater x y = next 0 x (omega arith) in
    let rest : InOrder (y ∷ ys) = in_order (y ∷ ys) (λ k d h.
    let e : suc k + 1 ≡ suc (k + 1) = omega arith in
    let within : suc k + 1 < length (x ∷ (y ∷ ys)) = omega (arith, h) in
    subst (λ (n : ℕ). NoLater (get_or (y ∷ ys) k d) (get_or (x ∷ (y ∷ ys)) n d)) e (next (suc k) d within)) in
    (All-cons (NoLater x) y ys first (All-weaker (NoLater y) (NoLater x) (λ z q. later_still x y z first q) ys rest.0), rest)

abbrev same_line : Lost → Lost → Bool
same_line one other = one.line == other.line

abbrev Rises : Lost → Lost → Type 0
Rises one other = one.line < other.line

none_lower : (k : Lost) (xs : List Lost) → All (NoLater k) xs → All (λ y. k.line ≤ y.line) (dedup_from same_line k xs)
none_lower k xs a =
    All-dedup same_line (λ y. k.line ≤ y.line) (k ∷ xs)
    (All-cons (λ y. k.line ≤ y.line) k xs (omega arith) (All-weaker (NoLater k) (λ y. k.line ≤ y.line) (λ y n. n.line) xs a))

lines_rise : (k : Lost) (xs : List Lost) → All (NoLater k) xs → InOrder xs → AllPairs Rises (dedup_from same_line k xs)
lines_rise k [] a o = AllPairs-cons Rises k [] (All-nil (Rises k)) (λ i j d before within. absurd (omega (arith, before, within)))
lines_rise k (x ∷ xs) a o = elim (cases_Bool (x.line == k.line)) [
  | inl same ↦ rw same (lines_rise k xs (All-tail (NoLater k) x xs a) o.1)
  | inr other ↦
      let next : NoLater k x = All-head (NoLater k) x xs a in
      let below : k.line < x.line = grind (arith, nat_tests, other, next.line) in
      rw other (
      AllPairs-cons Rises k (dedup_from same_line x xs)
      (All-weaker (λ y. x.line ≤ y.line) (Rises k) (λ y low. omega (arith, below, low)) (dedup_from same_line x xs) (none_lower x xs o.0))
      (lines_rise x xs o.0 o.1))
]

-- no store of its line has a lower number
abbrev IsLeast : List Lost → Lost → Type 0
IsLeast xs x = All (λ y. y.line ≡ x.line → x.store ≤ y.store) xs

first_is_least : (k : Lost) (xs : List Lost) → All (NoLater k) xs → IsLeast (k ∷ xs) k
first_is_least k xs a =
    All-cons (λ y. y.line ≡ k.line → k.store ≤ y.store) k xs (λ e. omega arith)
    (All-weaker (NoLater k) (λ y. y.line ≡ k.line → k.store ≤ y.store) (λ y n e. n.store (sym e)) xs a)

are_least : (k : Lost) (xs : List Lost) → All (NoLater k) xs → InOrder xs → All (IsLeast (k ∷ xs)) (dedup_from same_line k xs)
are_least k [] a o = All-cons (IsLeast (k ∷ [])) k [] (first_is_least k [] a) (All-nil (IsLeast (k ∷ [])))
are_least k (x ∷ xs) a o = elim (cases_Bool (x.line == k.line)) [
  | inl same ↦
      let line : x.line ≡ k.line = grind (arith, nat_tests, same) in
      let next : NoLater k x = All-head (NoLater k) x xs a in
      rw same (
      All-weaker (IsLeast (k ∷ xs)) (IsLeast (k ∷ (x ∷ xs)))
      (λ y least.
      let least_of : Lost → Type 0 = λ z. z.line ≡ y.line → y.store ≤ z.store in
      let head : k.line ≡ y.line → y.store ≤ k.store = All-head (λ z. z.line ≡ y.line → y.store ≤ z.store) k xs least in
      let tail = All-tail (λ z. z.line ≡ y.line → y.store ≤ z.store) k xs least in
      All-cons (λ z. z.line ≡ y.line → y.store ≤ z.store) k (x ∷ xs) head
      (All-cons (λ z. z.line ≡ y.line → y.store ≤ z.store) x xs
      (λ e. let of_k : k.line ≡ y.line = omega (arith, line, e) in omega (arith, head of_k, next.store (sym line))) tail))
      (dedup_from same_line k xs) (are_least k xs (All-tail (NoLater k) x xs a) o.1))
  | inr other ↦
      let next : NoLater k x = All-head (NoLater k) x xs a in
      let below : k.line < x.line = grind (arith, nat_tests, other, next.line) in
      let rest = are_least x xs o.0 o.1 in
      let low = none_lower x xs o.0 in
      rw other (
      All-cons (IsLeast (k ∷ (x ∷ xs))) k (dedup_from same_line x xs) (first_is_least k (x ∷ xs) a)
      (λ i d h.
      let y : Lost = get_or (dedup_from same_line x xs) i d in
      All-cons (λ z. z.line ≡ y.line → y.store ≤ z.store) k (x ∷ xs) (λ e. absurd (omega (arith, below, low i d h, e))) (rest i d h)))
]

any_here : {X : Type 0} (P : X → Type 0) (x : X) (xs : List X) → P x → Any P (x ∷ xs)
any_here P x xs p = (0, x, omega arith, refl, p)

any_there : {X : Type 0} (P : X → Type 0) (x : X) (xs : List X) → Any P xs → Any P (x ∷ xs)
any_there P x xs a = (suc a.0, a.1, omega (arith, a.2), a.3, a.4)

pub any_weaker : {X : Type 0} (P Q : X → Type 0) (xs : List X) → ((x : X) → P x → Q x) → Any P xs → Any Q xs
any_weaker P Q xs f a = (a.0, a.1, a.2, a.3, f a.1 a.4)

-- each line has its first
abbrev HasLine : List Lost → Lost → Type 0
HasLine firsts y = Any (λ x. x.line ≡ y.line) firsts

have_lines : (k : Lost) (xs : List Lost) → All (HasLine (dedup_from same_line k xs)) (k ∷ xs)
have_lines k [] = All-cons (HasLine (k ∷ [])) k [] (any_here (λ x. x.line ≡ k.line) k [] refl) (All-nil (HasLine (k ∷ [])))
have_lines k (x ∷ xs) = elim (cases_Bool (x.line == k.line)) [
  | inl same ↦
      let line : k.line ≡ x.line = grind (arith, nat_tests, same) in
      let kept = dedup_from same_line k xs in
      let all = have_lines k xs in
      let head = All-head (HasLine (dedup_from same_line k xs)) k xs all in
      rw same (
      All-cons (HasLine (dedup_from same_line k xs)) k (x ∷ xs) head
      (All-cons (HasLine (dedup_from same_line k xs)) x xs
      (any_weaker (λ z. z.line ≡ k.line) (λ z. z.line ≡ x.line) (dedup_from same_line k xs) (λ z e. omega (arith, e, line)) head)
      (All-tail (HasLine (dedup_from same_line k xs)) k xs all)))
  | inr other ↦
      rw other (
      All-cons (HasLine (k ∷ dedup_from same_line x xs)) k (x ∷ xs) (any_here (λ z. z.line ≡ k.line) k (dedup_from same_line x xs) refl)
      (All-weaker (HasLine (dedup_from same_line x xs)) (HasLine (k ∷ dedup_from same_line x xs))
      (λ y a. any_there (λ z. z.line ≡ y.line) k (dedup_from same_line x xs) a) (x ∷ xs) (have_lines x xs)))
]

firsts_of_sorted : (xs : List Lost) → InOrder xs → AreFirsts xs (dedup same_line xs)
firsts_of_sorted [] o = record {
  upwards = λ i j d before within. absurd (omega (arith, before, within));
  each = λ k d within. absurd (omega (arith, within));
  all = λ k d within. absurd (omega (arith, within));
}
firsts_of_sorted (k ∷ xs) o = record {
  upwards = lines_rise k xs o.0 o.1;
  each = λ i d h. (
    Contains-from_dedup same_line (k ∷ xs) (get_or (dedup_from same_line k xs) i d) (contains_at (dedup_from same_line k xs) i d h),
    are_least k xs o.0 o.1 i d h,
  );
  all = have_lines k xs;
}
  where
    contains_at : (ys : List Lost) (i : ℕ) (d : Lost) → i < length ys → Contains ys (get_or ys i d)
    contains_at ys i d h = Contains-get_or ys i d h

-- sorted by lines and numbers, and then with the first of each line alone
pub are_firsts : (lost sorted firsts : List Lost) → IsPermutation lost sorted →
    ((k : ℕ) (d : Lost) → k + 1 < length sorted →
    is_lt (ordering_then (nat_cmp (get_or sorted (k + 1) d).line (get_or sorted k d).line) (nat_cmp (get_or sorted (k + 1) d).store (get_or sorted k d).store)) ≡ false) →
    firsts ≡ dedup same_line sorted → AreFirsts lost firsts
are_firsts lost sorted firsts same_ones next is =
    let back = IsPermutation-sym lost sorted same_ones in
    let order : InOrder sorted = in_order sorted (λ k d h.
    let x : Lost = get_or sorted k d in
    let y : Lost = get_or sorted (k + 1) d in
    let low = no_less x.line x.store y.line y.store (next k d h) in
    record { line = low.0; store = low.1 }) in
    let f = firsts_of_sorted sorted order in
    rw is (record {
      upwards = f.upwards;
      each = λ i d h. (
        Contains-permutation sorted lost (get_or (dedup same_line sorted) i d) back (f.each i d h).0,
        All-permutation (λ y. y.line ≡ (get_or (dedup same_line sorted) i d).line → (get_or (dedup same_line sorted) i d).store ≤ y.store) sorted lost back (f.each i d h).1,
      );
      all = All-permutation (HasLine (dedup same_line sorted)) sorted lost back f.all;
    })
