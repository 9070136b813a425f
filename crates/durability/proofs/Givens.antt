-- Lists of what is given, one element more.
use Rattle.std.proofs.Common.{List, [], ◌∷◌, ◌++◌, Option, refl, ap, ◌∙◌, append_assoc}
use Rattle.std.specs.Prelude.{option_to_list}
use Rattle.std.proofs.lemmas.List.{append-nil}
use Rattle.durability.specs.Given.{AreGiven}

pub given_more : {X Y : Type 0} (R : X → Option Y → Type 0) (xs : List X) (ys : List Y) (x : X) (o : Option Y) →
    AreGiven R xs ys → R x o → AreGiven R (xs ++ x ∷ []) (ys ++ option_to_list o)
given_more R [] ys x o given r = (o, [], r, rw given (simp append-nil), refl)
given_more {Y = Y} R (z ∷ xs) ys x o given r = (
  given.0,
  given.1 ++ option_to_list o,
  given.2,
  ap (λ (list : List Y). list ++ option_to_list o) given.3 ∙ append_assoc (option_to_list given.0) given.1 (option_to_list o),
  given_more R xs given.1 x o given.4 r,
)
