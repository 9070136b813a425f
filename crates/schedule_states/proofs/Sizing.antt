-- What a table counts of its values, as it grows by one.
use Rattle.std.proofs.Common.{◌≡◌, ◌∙◌, ◌⊎◌, inl, inr, ℕ, ◌+◌, ◌<◌, ◌++◌, ◌∷◌, List, [], length, map, ap, arith}
use Rattle.std.proofs.lemmas.List.{map-append}
use Rattle.std.proofs.lemmas.List.Sums.{sum_by_push}
use Rattle.std.specs.Prelude.{sum_by}

pub sum_grown : {A : Type 0} (f : A → ℕ) (old new : List A) (x : A) → (new ≡ old) ⊎ (new ≡ old ++ x ∷ []) → length old < length new → sum_by f new ≡ sum_by f old + f x
sum_grown f old new x (inl same) more = absurd (omega (arith, ap length same, more))
sum_grown f old new x (inr one) more = ap (λ (values : List _). sum_by f values) one ∙ sum_by_push f old x

-- of what the values are seen as
pub seen_sum_grown : {A B : Type 0} (see : A → B) (f : B → ℕ) (old new : List A) (x : A) → (new ≡ old) ⊎ (new ≡ old ++ x ∷ []) → length old < length new →
    sum_by f (map see new) ≡ sum_by f (map see old) + f (see x)
seen_sum_grown see f old new x (inl same) more = absurd (omega (arith, ap length same, more))
seen_sum_grown see f old new x (inr one) more =
    ap (λ (values : List _). sum_by f (map see values)) one ∙ ap (sum_by f) (map-append see old (x ∷ [])) ∙ sum_by_push f (map see old) (see x)
