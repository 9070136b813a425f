-- A source of lines that keeps which it was asked for.
use Rattle.std.specs.Prelude.{ℕ, List}

-- the lines of a medium, and the numbers of those asked so far, in order
pub record Source : Type 0 where
  pub lines : List (List ℕ)
  pub asked : List ℕ
