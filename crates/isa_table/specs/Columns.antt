-- The columns that the formats of an instruction word share.
-- Source: RISC-V Unprivileged ISA 20191213, chapter 2 ("Base Instruction Formats").
use Rattle.std.specs.Prelude.{◌≡◌, ℕ}
use Rattle.word_bits.specs.Numbers.{field}

-- word w has the opcode o, and in the places of rd, funct3, rs1, rs2 and funct7 the numbers d, f, a, b and g
pub record HasColumns (w o d f a b g : ℕ) : Type 0 where
  pub opcode : field w 0 7 ≡ o
  pub rd : field w 7 5 ≡ d
  pub funct3 : field w 12 3 ≡ f
  pub rs1 : field w 15 5 ≡ a
  pub rs2 : field w 20 5 ≡ b
  pub funct7 : field w 25 7 ≡ g
