-- Totals over a list in which one place changes.
use Rattle.std.proofs.Common.{◌≡◌, ℕ, zero, suc, ◌+◌, ◌-◌, ◌<◌, ◌≤◌, List, [], ◌∷◌, ◌++◌, length, set, replicate, refl, sym, ap, ◌∙◌, arith}
use mathlib.Core.Option.{some, some-injective, some-ne-none}
use lib.ListN.{get_elem?}
use Rattle.workers.specs.Counts.{weigh, weigh_below, total}

pub weigh-append : (h : ℕ → ℕ) (xs ys : List ℕ) → weigh h (xs ++ ys) ≡ weigh h xs + weigh h ys
weigh-append h [] ys = omega arith
weigh-append h (x ∷ xs) ys = let i = weigh-append h xs ys in omega arith

module _ {A : Type 0} where
  pub total_set : (f : A → ℕ) (views : List A) (seat : ℕ) (v w : A) → get_elem? views seat ≡ some v → total f (set views seat w) + f v ≡ total f views + f w
  total_set f [] seat v w at = absurd (some-ne-none v (sym at))
  total_set f (x ∷ xs) zero v w at = let e = ap f (some-injective x v at) in omega arith
  total_set f (x ∷ xs) (suc seat) v w at = let i = total_set f xs seat v w at in omega arith

  pub total-append : (f : A → ℕ) (xs ys : List A) → total f (xs ++ ys) ≡ total f xs + total f ys
  total-append f [] ys = omega arith
  total-append f (x ∷ xs) ys = let i = total-append f xs ys in omega arith

  pub below : (xs : List A) (k : ℕ) (v : A) → get_elem? xs k ≡ some v → k < length xs
  below [] k v at = absurd (some-ne-none v (sym at))
  below (x ∷ xs) zero v at = omega arith
  below (x ∷ xs) (suc k) v at = let i = below xs k v at in omega arith

  -- one of several
  pub total_at : (f : A → ℕ) (xs : List A) (k : ℕ) (v : A) → get_elem? xs k ≡ some v → f v ≤ total f xs
  total_at f [] k v at = absurd (some-ne-none v (sym at))
  total_at f (x ∷ xs) zero v at = let e = ap f (some-injective x v at) in omega arith
  total_at f (x ∷ xs) (suc k) v at = let i = total_at f xs k v at in omega arith

  -- where f is 0 of each whose g is 0, and the sum of g is 0, that of f is
  pub total_idle : (f g : A → ℕ) (xs : List A) → ((k : ℕ) (v : A) → get_elem? xs k ≡ some v → g v ≡ 0 → f v ≡ 0) → total g xs ≡ 0 → total f xs ≡ 0
  total_idle f g [] idle none = refl
  total_idle f g (x ∷ xs) idle none =
      let h = idle 0 x refl (omega arith) in
      let i = total_idle f g xs (λ k v at. idle (suc k) v at) (omega arith) in omega arith

  -- a sum of numbers that are at most others is at most their sum
  pub total_most : (f g : A → ℕ) (xs : List A) → ((k : ℕ) (v : A) → get_elem? xs k ≡ some v → f v ≤ g v) → total f xs ≤ total g xs
  total_most f g [] most = omega arith
  total_most f g (x ∷ xs) most =
      let h = most 0 x refl in
      let i = total_most f g xs (λ k v at. most (suc k) v at) in omega arith

pub weigh-ones : (xs : List ℕ) → weigh (λ _. 1) xs ≡ length xs
weigh-ones [] = refl
weigh-ones (x ∷ xs) = let i = weigh-ones xs in omega arith

pub weigh_below-ones : (n : ℕ) → weigh_below (λ _. 1) n ≡ n
weigh_below-ones zero = refl
weigh_below-ones (suc n) = let i = weigh_below-ones n in omega arith

-- one more of the same
pub replicate_up : {A : Type 0} → (xs : List A) (x : A) (k n : ℕ) → xs ≡ replicate (k - 1) x → 1 ≤ k → n ≡ k → xs ++ x ∷ [] ≡ replicate n x
replicate_up {A} xs x zero n is some_one same = absurd (omega arith)
replicate_up {A} xs x (suc k) n is some_one same = ap (λ l. l ++ x ∷ []) (is ∙ ap (λ (m : ℕ). replicate m x) (omega arith)) ∙ (snoc k ∙ ap (λ (m : ℕ). replicate m x) (sym same))
  where
    snoc : (k : ℕ) → replicate k x ++ x ∷ [] ≡ replicate (suc k) x
    snoc zero = refl
    snoc (suc k) = ap (λ l. x ∷ l) (snoc k)
