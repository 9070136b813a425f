-- A list of what the elements of another list give.
use Rattle.std.specs.Prelude.{◌≡◌, List, [], ◌∷◌, ◌++◌, Option, option_to_list}

-- in the order of the elements of the first list, what each of them gives by R, where that isn't None
abbrev pub AreGiven : {X Y : Type 0} → (X → Option Y → Type 0) → List X → List Y → Type 0
AreGiven R [] ys = ys ≡ []
AreGiven {Y = Y} R (x ∷ xs) ys =
    (given : Option Y) × (rest : List Y) × R x given × (ys ≡ option_to_list given ++ rest) × AreGiven R xs rest
