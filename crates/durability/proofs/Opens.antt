-- No clean is complete by a moment, as a fate tells.
use Rattle.std.proofs.Common.{◌≡◌, ℕ, ◌<◌, ◌≤◌, List, Option, Some, None, subst, arith, rules}
use Rattle.std.specs.Prelude.{◌↔◌, IfSome, IsTrue, true, false, nat_lt}
use Rattle.store_trace.specs.declared.event.Event.{Event}
use Rattle.durability.specs.Causes.{IsCause, IsClean, IsCompletion, IsFate, IsFirstCompletion}
use Rattle.durability.specs.Numbered.{IsCleanOf, IsFirst, IsFirstIfAny}
use Rattle.durability.specs.declared.cause.Cause.TheVariants.{FencedByAnother}
use Rattle.durability.specs.declared.cause.Completion.{Completion}
use Rattle.durability.specs.declared.cause.Fate.{Fate}

pub is_true : IsTrue true
is_true = search rules

-- a test is a fact
lt_test : (i j : ℕ) → IsTrue (nat_lt i j) ↔ (i < j)
lt_test i j = search rules

pub open_none : (events : List Event) (l e m : ℕ) (fate : Fate) → fate.completion ≡ None → IsFate events l e fate →
    (IsTrue true ↔ ((n : ℕ) → IsCompletion events l e n → m < n))
open_none events l e m fate none f =
    let never : IsFirstCompletion events l e None = subst (λ (o : Option Completion). IsFirstCompletion events l e o) none f.completion in
    (λ t n c. absurd (never n c), λ late. is_true)

pub open_some : (events : List Event) (l e m : ℕ) (done : Completion) (fate : Fate) → fate.completion ≡ Some done → IsFate events l e fate →
    (IsTrue (nat_lt m done.fence) ↔ ((n : ℕ) → IsCompletion events l e n → m < n))
open_some events l e m done fate some f =
    let first : IsFirstCompletion events l e (Some done) = subst (λ (o : Option Completion). IsFirstCompletion events l e o) some f.completion in (
      λ t n c. omega (arith, (lt_test m done.fence).0 t, first.0.first n c),
      λ late. (lt_test m done.fence).1 (late done.fence first.0.holds),
    )

pub is_false : IsTrue false → ⊥
is_false t = search (rules, t)

-- the first fence that completes a clean is another hart's than that of the first clean
pub another_fences : (events : List Event) (l e m : ℕ) (fate : Fate) (clean : ℕ) (done : Completion) → fate.clean ≡ Some clean →
    fate.completion ≡ Some done → clean ≤ m → (clean ≡ done.clean → ⊥) → IsFate events l e fate →
    IsCause events m l e (FencedByAnother clean fate.hart done.clean done.fence)
another_fences events l e m fate clean done cleans completes early other f =
    let first : IsFirst (IsClean events l e) clean = subst (λ (o : Option ℕ). IsFirstIfAny (IsClean events l e) o) cleans f.clean in
    let by : IsCleanOf events fate.hart l e clean = subst (λ (o : Option ℕ). IfSome o (IsCleanOf events fate.hart l e)) cleans f.hart in
    let fence : IsFirstCompletion events l e (Some done) = subst (λ (o : Option Completion). IsFirstCompletion events l e o) completes f.completion in
    let own = fence.1.holds in
    let low : clean ≤ done.clean = first.first done.clean (record { hart = own.hart; cleans = own.cleans }) in
    (first, early, fence.0, fence.1, by, less low other)
  where
    less : clean ≤ done.clean → (clean ≡ done.clean → ⊥) → clean < done.clean
    less low other = omega (arith, low, other)
