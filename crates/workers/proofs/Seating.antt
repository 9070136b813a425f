-- What the two steps of a claim leave.
use Rattle.std.proofs.Common.{◌≡◌, ℕ, ◌<◌, ◌≤◌, List, [], ◌∷◌, ◌++◌, refl, ap, ◌∙◌, arith}
use mathlib.Core.Logic.{dite}
use native.Mathlib.Decide.{dec_lt}
use Rattle.workers.specs.declared.rule.DeskView.{DeskView}
use Rattle.workers.specs.Desks.{last_moment, moment_of}
use Rattle.workers.specs.Rule.{with_claim, with_end, with_found}

pub last_push : (xs : List ℕ) (x : ℕ) → last_moment (xs ++ x ∷ []) ≡ moment_of x
last_push [] x = refl
last_push (y ∷ []) x = refl
last_push (y ∷ z ∷ xs) x = last_push (z ∷ xs) x

-- a claim leaves the parts
pub claim_parts : (v w : DeskView) (number : ℕ) → (number < v.moments → w ≡ with_claim v number) → (v.moments ≤ number → w ≡ with_end v) → w.parts ≡ v.parts
claim_parts v w number inside outside = dite (dec_lt number v.moments) (λ l. ap (λ (u : DeskView). u.parts) (inside l)) (λ n. ap (λ (u : DeskView). u.parts) (outside (omega arith)))

pub claim_some : (v w u : DeskView) (number word : ℕ) → (number < v.moments → w ≡ with_claim v number) → u ≡ with_found w word → number < v.moments → u ≡ with_found (with_claim v number) word
claim_some v w u number word inside found l = found ∙ ap (λ (x : DeskView). with_found x word) (inside l)

pub claim_none : (v w u : DeskView) (number word : ℕ) → (v.moments ≤ number → w ≡ with_end v) → u ≡ with_found w word → v.moments ≤ number → u ≡ with_found (with_end v) word
claim_none v w u number word outside found l = found ∙ ap (λ (x : DeskView). with_found x word) (outside l)
