-- A text cut at the first of a byte.
use Rattle.std.specs.Prelude.{◌≡◌, ◌==◌, ℕ, List, ◌∷◌, ◌++◌, not, true}
use Rattle.std.specs.List.{list_all}

pub record IsCutAt (stop : ℕ) (text front back : List ℕ) : Type 0 where
  pub whole : text ≡ front ++ stop ∷ back
  pub first : list_all (λ byte. not (byte == stop)) front ≡ true
