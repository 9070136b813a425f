-- The product over the stored lines, as one step more adds a line to them.
use Rattle.std.proofs.Common.{◌≡◌, ℕ, ◌+◌, ◌*◌, ◌<◌, ◌≤◌, ◌==◌, nat_lt, List, [], ◌∷◌, ◌++◌, length, get_or, take, drop, true, false, inl, inr, subst, refl, ap, ◌∙◌, sym, arith}
use Rattle.std.specs.Prelude.{if◌then◌else◌, reverse}
use Rattle.std.proofs.lemmas.Bool.{cases_Bool}
use Rattle.std.proofs.lemmas.Bool.Decides.{nat_tests}
use Rattle.std.proofs.lemmas.List.{take-append-drop, reverse-append, take_more}
use Rattle.std.proofs.Math.Nat.{le-mul_of_pos_right}
use Rattle.store_trace.proofs.Lines.{has, has_stored_lines, Upwards, upwards_stored_lines}
use Rattle.store_trace.specs.Cut.{with_line, stored_lines, width_of, count_of}
use Rattle.store_trace.specs.Stores.{stores}
use Rattle.store_trace.specs.declared.crash_model.step.PersistenceStep.{PersistenceStep}
use Rattle.store_trace.specs.declared.crash_model.step.PersistenceStep.TheVariants.{Store, Clean, Fence, Evict}

swap_factors : (a b c : ℕ) → a * (b * c) ≡ b * (a * c)
swap_factors a b c = omega arith

one_times : (a : ℕ) → 1 * a ≡ a
one_times a = omega arith

le_times : (a b : ℕ) → 0 < b → a ≤ b * a
le_times a b h = grind (arith, le-mul_of_pos_right a h)

-- lines from n upwards have none below n
has_below : (n m : ℕ) (ls : List ℕ) → Upwards n ls → m < n → has m ls ≡ false
has_below n m [] up h = refl
has_below n m (l ∷ ls) up h =
    let rest : has m ls ≡ false = has_below (l + 1) m ls up.1 (omega (arith, up.0)) in
    let low : n ≤ l = up.0 in
    grind (arith, nat_tests, rest, low)

-- the factor that one more line adds: none where the line is among them already
abbrev factor : List PersistenceStep → ℕ → List ℕ → ℕ
factor p m ls = if has m ls then 1 else width_of p m

count_with_line : (p : List PersistenceStep) (n m : ℕ) (ls : List ℕ) → Upwards n ls →
    count_of p (with_line m ls) ≡ factor p m ls * count_of p ls
count_with_line p n m [] up = refl
count_with_line p n m (l ∷ ls) up = elim (cases_Bool (nat_lt m l)) [
  | inl less ↦
      let none : has m ls ≡ false = has_below (l + 1) m ls up.1 (grind (arith, nat_tests, less)) in
      let other : (l == m) ≡ false = grind (arith, nat_tests, less) in
      rw (less, other, none) refl
  | inr not_less ↦ rw not_less (elim (cases_Bool (m == l)) [
    | inl same ↦
        let found : (l == m) ≡ true = grind (arith, nat_tests, same) in
        rw (same, found) (sym (one_times (width_of p l * count_of p ls)))
    | inr different ↦
        let other : (l == m) ≡ false = grind (arith, nat_tests, different) in
        rw (different, other)
        (ap (λ (c : ℕ). width_of p l * c) (count_with_line p (l + 1) m ls up.1)
        ∙ swap_factors (width_of p l) (factor p m ls) (count_of p ls))
  ])
]

-- one step more: at the first store of a line its factor, else 1
pub count_store : (p q : List PersistenceStep) (m o w v : ℕ) →
    count_of p (stored_lines (Store m o w v ∷ q)) ≡ (if stores m q == 0 then width_of p m else 1) * count_of p (stored_lines q)
count_store p q m o w v =
    count_with_line p 0 m (stored_lines q) (upwards_stored_lines q)
    ∙ ap (λ (f : ℕ). f * count_of p (stored_lines q)) (grind (arith, nat_tests, has_stored_lines m q))

one_or_more : (p q : List PersistenceStep) (m o w v : ℕ) → count_of p (stored_lines q) ≤ count_of p (stored_lines (Store m o w v ∷ q))
one_or_more p q m o w v =
    let some : 0 < (if stores m q == 0 then width_of p m else 1) = grind (arith, nat_tests) in
    rw (count_store p q m o w v) (le_times (count_of p (stored_lines q)) (if stores m q == 0 then width_of p m else 1) some)

-- further steps make no product smaller
pub count_grows : (p a q : List PersistenceStep) → count_of p (stored_lines q) ≤ count_of p (stored_lines (a ++ q))
count_grows p [] q = omega arith
count_grows p (Store m o w v ∷ a) q = omega (arith, count_grows p a q, one_or_more p (a ++ q) m o w v)
count_grows p (Clean h m ∷ a) q = count_grows p a q
count_grows p (Fence h ∷ a) q = count_grows p a q
count_grows p (Evict m ∷ a) q = count_grows p a q

-- the product over the first steps of a list, oldest first, is at most the whole
pub count_below : (p steps : List PersistenceStep) (i : ℕ) →
    count_of p (stored_lines (reverse (take i steps))) ≤ count_of p (stored_lines (reverse steps))
count_below p steps i =
    let split : reverse (drop i steps) ++ reverse (take i steps) ≡ reverse steps =
    sym (reverse-append (take i steps) (drop i steps)) ∙ ap (λ (s : List PersistenceStep). reverse s) (take-append-drop i steps) in
    subst (λ (s : List PersistenceStep). count_of p (stored_lines (reverse (take i steps))) ≤ count_of p (stored_lines s)) split
    (count_grows p (reverse (drop i steps)) (reverse (take i steps)))

-- the newest of the first steps
pub reverse_take_more : (steps : List PersistenceStep) (i : ℕ) (d : PersistenceStep) → i < length steps →
    reverse (take (i + 1) steps) ≡ get_or steps i d ∷ reverse (take i steps)
reverse_take_more steps i d h =
    ap (λ (s : List PersistenceStep). reverse s) (take_more steps i d h) ∙ reverse-append (take i steps) (get_or steps i d ∷ [])

pub count_more : (p steps : List PersistenceStep) (i m o w v : ℕ) (d : PersistenceStep) → i < length steps →
    get_or steps i d ≡ Store m o w v →
    count_of p (stored_lines (reverse (take (i + 1) steps)))
    ≡ (if stores m (reverse (take i steps)) == 0 then width_of p m else 1) * count_of p (stored_lines (reverse (take i steps)))
count_more p steps i m o w v d h e =
    ap (λ (s : List PersistenceStep). count_of p (stored_lines s))
    (reverse_take_more steps i d h ∙ ap (λ (step : PersistenceStep). step ∷ reverse (take i steps)) e)
    ∙ count_store p (reverse (take i steps)) m o w v
