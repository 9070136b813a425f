-- What a list doesn't have.
use Rattle.std.proofs.Common.{◌≡◌, zero, suc, ◌⊎◌, inl, inr, List, [], ◌∷◌, arith, refl}
use Rattle.std.specs.Prelude.{Contains}

pub no_head : {X : Type 0} (x : X) (xs : List X) (y : X) → (Contains (x ∷ xs) y → ⊥) → x ≡ y → ⊥
no_head x xs y none e = none (0, omega arith, e)

pub no_tail : {X : Type 0} (x : X) (xs : List X) (y : X) → (Contains (x ∷ xs) y → ⊥) → Contains xs y → ⊥
no_tail x xs y none c = let lt = c.1 in none (suc c.0, omega arith, c.2)

pub head_or_tail : {X : Type 0} (x : X) (xs : List X) (y : X) → Contains (x ∷ xs) y → (x ≡ y) ⊎ Contains xs y
head_or_tail x xs y (zero, within, is) = inl is
head_or_tail x xs y (suc k, within, is) = inr (k, omega arith, is)

pub contains_head : {X : Type 0} (x : X) (xs : List X) → Contains (x ∷ xs) x
contains_head x xs = (0, omega arith, refl)

pub contains_tail : {X : Type 0} (x : X) (xs : List X) (y : X) → Contains xs y → Contains (x ∷ xs) y
contains_tail x xs y c = let lt = c.1 in (suc c.0, omega arith, c.2)

pub none_in_nil : {X : Type 0} (y : X) → Contains [] y → ⊥
none_in_nil y c = let lt = c.1 in absurd (omega arith)

pub none_in_cons : {X : Type 0} (x : X) (xs : List X) (y : X) → (x ≡ y → ⊥) → (Contains xs y → ⊥) → Contains (x ∷ xs) y → ⊥
none_in_cons x xs y head tail c = elim (head_or_tail x xs y c) [ inl e ↦ head e | inr in_tail ↦ tail in_tail ]
