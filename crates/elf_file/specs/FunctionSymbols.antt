-- A function of a symbol table.
use Rattle.std.specs.Prelude.{ℕ, List}

-- its name, the address of its first byte, and how many bytes it has
pub record FunctionSymbol : Type 0 where
  pub name : List ℕ
  pub address : ℕ
  pub size : ℕ
