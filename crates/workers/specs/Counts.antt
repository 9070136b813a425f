-- Lists of moments: their weights added up, and a list that has each moment below a number once.
use Rattle.std.specs.Prelude.{◌≡◌, ℕ, zero, suc, ◌+◌, List, [], ◌∷◌}

-- f of each, added up
abbrev pub total : {X : Type 0} → (X → ℕ) → List X → ℕ
total f [] = 0
total f (x ∷ xs) = f x + total f xs

-- the weights of the moments of the list, added up
abbrev pub weigh : (ℕ → ℕ) → List ℕ → ℕ
weigh h [] = 0
weigh h (x ∷ xs) = h x + weigh h xs

-- the weights of all moments below n, added up
abbrev pub weigh_below : (ℕ → ℕ) → ℕ → ℕ
weigh_below h zero = 0
weigh_below h (suc n) = weigh_below h n + h n

-- the list has each moment below n once and no other, in some order: they weigh the same, whatever each weighs
abbrev pub HasEachOnce : List ℕ → ℕ → Type 0
HasEachOnce moments n = (h : ℕ → ℕ) → weigh h moments ≡ weigh_below h n
