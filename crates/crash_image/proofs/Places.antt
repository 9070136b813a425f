-- The place of a moment in a list, and lists one element longer.
use Rattle.std.proofs.Common.{◌≡◌, ℕ, ◌<◌, ◌≤◌, ltb, nat_lt, true, false, List, [], ◌∷◌, ◌++◌, length, get_or, inl, inr, arith}
use Rattle.std.proofs.lemmas.Bool.{cases_Bool}
use Rattle.std.proofs.lemmas.Bool.Decides.{nat_tests}
use Rattle.std.proofs.lemmas.Grind.{common_steps}
use Rattle.std.specs.List.Sorted.{IsPartitionedBy, IsPartitionPoint}
use Rattle.crash_image.specs.Lines.{IsPlace}

-- up to the place the elements are of earlier events
pub place_parts : {X : Type 0} (event : X → ℕ) (xs : List X) (m count : ℕ) → IsPlace event xs m count →
    IsPartitionedBy (λ x. ltb (event x) m) xs
place_parts event xs m count p i j d le h e =
    elim (cases_Bool (nat_lt j count)) [
      | inl low ↦ let b : event (get_or xs i d) < m = p.below i d (grind (arith, nat_tests, low)) in grind (arith, nat_tests, b)
      | inr not_low ↦
          let b : m ≤ event (get_or xs j d) = p.above j d (grind (arith, nat_tests, not_low)) h in
          absurd (grind (arith, nat_tests, b, e))
    ]

pub place_found : {X : Type 0} (event : X → ℕ) (xs : List X) (d : X) (m count found : ℕ) → IsPlace event xs m count → found ≤ length xs →
    IsPartitionPoint (λ x. ltb (event x) m ≡ true) (λ x. ltb (event x) m ≡ false) xs found → found ≡ count
place_found event xs d m count found p h parts =
    let low : count ≤ found = elim (cases_Bool (nat_lt found count)) [
      | inl less ↦
          let f : found < count = grind (arith, nat_tests, less) in
          let b : event (get_or xs found d) < m = p.below found d f in
          let n : ltb (event (get_or xs found d)) m ≡ false = parts.1 found d (omega arith) (omega (arith, p.within)) in
          absurd (grind (arith, nat_tests, b, n))
      | inr more ↦ grind (arith, nat_tests, more)
    ] in
    let high : found ≤ count = elim (cases_Bool (nat_lt count found)) [
      | inl less ↦
          let f : count < found = grind (arith, nat_tests, less) in
          let b : m ≤ event (get_or xs count d) = p.above count d (omega arith) (omega (arith, f, h)) in
          let n : ltb (event (get_or xs count d)) m ≡ true = parts.0 count d (omega arith) f in
          absurd (grind (arith, nat_tests, b, n))
      | inr more ↦ grind (arith, nat_tests, more)
    ] in
    omega arith

-- one element more, of a later event
pub place_pushed : {X : Type 0} (event : X → ℕ) (xs : List X) (x : X) (m count : ℕ) → m ≤ event x → IsPlace event xs m count →
    IsPlace event (xs ++ x ∷ []) m count
place_pushed event xs x m count h p = record {
  within = grind (arith, common_steps, p.within);
  below = λ i d b. let e : get_or (xs ++ x ∷ []) i d ≡ get_or xs i d = grind (arith, common_steps, p.within, b) in rw e (p.below i d b);
  above = λ i d a b. elim (cases_Bool (nat_lt i (length xs))) [
    | inl low ↦
        let f : i < length xs = grind (arith, nat_tests, low) in
        let e : get_or (xs ++ x ∷ []) i d ≡ get_or xs i d = grind (arith, common_steps, f) in rw e (p.above i d a f)
    | inr high ↦
        let f : i ≡ length xs = grind (arith, common_steps, nat_tests, high, b) in
        let e : get_or (xs ++ x ∷ []) i d ≡ x = grind (arith, common_steps, f) in rw e h
  ];
}

-- all elements are of earlier events
pub place_end : {X : Type 0} (event : X → ℕ) (xs : List X) (m : ℕ) → ((i : ℕ) (d : X) → i < length xs → event (get_or xs i d) < m) →
    IsPlace event xs m (length xs)
place_end event xs m early = record {
  within = omega arith;
  below = early;
  above = λ i d a b. absurd (omega arith);
}

-- where all elements are of earlier events
pub place_last : {X : Type 0} (event : X → ℕ) (xs : List X) (m count : ℕ) → ((i : ℕ) (d : X) → i < length xs → event (get_or xs i d) < m) →
    IsPlace event xs m count → length xs ≡ count
place_last event [] m count early p = omega (arith, p.within)
place_last event (x ∷ xs) m count early p = elim (cases_Bool (nat_lt count (length (x ∷ xs)))) [
  | inl short ↦
      let there : count < length (x ∷ xs) = grind (arith, nat_tests, short) in
      absurd (omega (arith, early count x there, p.above count x (omega arith) there))
  | inr all ↦ grind (arith, nat_tests, all, p.within)
]
