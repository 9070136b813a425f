-- How many steps there are with evictions among them.
use Rattle.std.proofs.Common.{◌≡◌, ℕ, ◌+◌, ◌<◌, ◌≤◌, true, false, List, [], ◌∷◌, length, refl, ap, arith, eqb, inl, inr}
use Rattle.std.proofs.lemmas.Bool.Decides.{nat_tests}
use Rattle.std.proofs.lemmas.Bool.{cases_Bool}
use Rattle.std.proofs.lemmas.List.{length-append}
use Rattle.std.proofs.lemmas.List.Elements.{All-head, All-tail}
use Rattle.std.specs.Prelude.{All}
use Rattle.machine.specs.declared.schedule.items.Step.{Step}
use Rattle.machine.specs.declared.schedule.items.Step.TheVariants.{Hart, Evict}
use Rattle.random_schedule.specs.Weaving.{eviction_steps, those_after, with_evictions}
use Rattle.random_schedule.specs.declared.evictions.Eviction.{Eviction}
use Rattle.random_schedule.proofs.Weaves.{counted}

apart : (a b : ℕ) → a ≤ b → eqb a (b + 1) ≡ false
apart a b h = grind (arith, nat_tests, h)

later : (a b : ℕ) → b < a → eqb a b ≡ false
later a b h = grind (arith, nat_tests, h)

same : (a b : ℕ) → eqb a b ≡ true → a ≡ b
same a b h = grind (arith, nat_tests, h)

other : (a b : ℕ) → b ≤ a → eqb a b ≡ false → b < a
other a b h g = grind (arith, nat_tests, h, g)

-- an eviction at an earlier step, or before them all, isn't among them
early : (made : ℕ) (e : Eviction) (evictions : List Eviction) (steps : List Step) → e.step ≤ made
    → with_evictions made (e ∷ evictions) steps ≡ with_evictions made evictions steps
early made e evictions [] before = refl
early made e evictions (Hart h ∷ steps) before =
    let rest = early (made + 1) e evictions steps (omega arith) in
    let no : eqb e.step (made + 1) ≡ false = apart e.step made before in
    rw (no, rest) refl
early made e evictions (Evict line ∷ steps) before = ap (λ (s : List Step). Evict line ∷ s) (early made e evictions steps before)

-- one at a later step of them is
one_longer : (made : ℕ) (e : Eviction) (evictions : List Eviction) (steps : List Step) → made < e.step → e.step ≤ counted made steps
    → length (with_evictions made (e ∷ evictions) steps) ≡ length (with_evictions made evictions steps) + 1
one_longer made e evictions [] after within = absurd (omega arith)
one_longer made e evictions (Hart h ∷ steps) after within =
    let here : List Eviction = those_after (made + 1) evictions in
    let count = length-append (eviction_steps here) (with_evictions (made + 1) evictions steps) in
    elim (cases_Bool (eqb e.step (made + 1))) [
      | inl at ↦
          let rest = early (made + 1) e evictions steps (let is = same e.step (made + 1) at in omega arith) in
          rw (at, rest) (omega (arith, length-append (eviction_steps (e ∷ here)) (with_evictions (made + 1) evictions steps)))
      | inr not_at ↦
          let more = other e.step (made + 1) (omega arith) not_at in
          let rest = one_longer (made + 1) e evictions steps more within in
          rw not_at (omega (arith, rest, count, length-append (eviction_steps here) (with_evictions (made + 1) (e ∷ evictions) steps)))
    ]
one_longer made e evictions (Evict line ∷ steps) after within = let rest = one_longer made e evictions steps after within in omega arith

none_added : (made : ℕ) (steps : List Step) → with_evictions made [] steps ≡ steps
none_added made [] = refl
none_added made (Hart h ∷ steps) = ap (λ (s : List Step). Hart h ∷ s) (none_added (made + 1) steps)
none_added made (Evict line ∷ steps) = ap (λ (s : List Step). Evict line ∷ s) (none_added made steps)

pub woven_length : (made : ℕ) (evictions : List Eviction) (steps : List Step) → All (λ (e : Eviction). made < e.step) evictions
    → All (λ (e : Eviction). e.step ≤ counted made steps) evictions
    → length (with_evictions made evictions steps) ≡ length steps + length evictions
woven_length made [] steps after within = let none = ap (λ (s : List Step). length s) (none_added made steps) in omega arith
woven_length made (e ∷ evictions) steps after within =
    let P : Eviction → Type 0 = λ e. made < e.step in
    let Q : Eviction → Type 0 = λ e. e.step ≤ counted made steps in
    let first = one_longer made e evictions steps (All-head P e evictions after) (All-head Q e evictions within) in
    let rest = woven_length made evictions steps (All-tail P e evictions after) (All-tail Q e evictions within) in
    omega arith
