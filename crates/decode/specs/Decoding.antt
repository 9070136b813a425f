-- What a decoder answers for a word.
use Rattle.std.specs.Prelude.{◌≡◌, ℕ, Option, Some, IfSome, IsNone}
use Rattle.isa_table.specs.declared.instruction.Instr.{Instr}
use Rattle.isa_table.specs.Table.{Spells}

-- the answer is Some(i) exactly where word w spells i
pub record Decodes (w : ℕ) (answer : Option Instr) : Type 0 where
  pub some : (i : Instr) → answer ≡ Some i → Spells w i
  pub all : (i : Instr) → Spells w i → answer ≡ Some i

-- the answer is an instruction that word w spells, or None where it spells none
pub record Reads (w : ℕ) (answer : Option Instr) : Type 0 where
  pub some : IfSome answer (Spells w)
  pub none : IsNone answer → (i : Instr) → Spells w i → ⊥
