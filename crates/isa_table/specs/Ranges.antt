-- Which operands fit an instruction's word.
-- Source: RISC-V Unprivileged ISA 20191213, chapter 2 ("Immediate Encoding Variants", "Control Transfer Instructions")
-- and chapter 5 (RV64I).
use Rattle.std.specs.Prelude.{◌≡◌, ℕ, ℤ, pos, ◌-◌, ◌%◌, ◌^◌, ◌<◌, ◌+ℤ◌, ◌≤ℤ◌, ◌<ℤ◌, unsigned_abs}
use Rattle.isa_table.specs.declared.instruction.Instr.{Instr}
use Rattle.isa_table.specs.declared.instruction.Instr.TheVariants.{Upper, Jump, JumpRegister, Branch, Load, Store, Immediate, Shift}
use Rattle.isa_table.specs.Operands.{shift_bits}

-- the integer z has a two's complement form of n bits
pub record FitsBits (n : ℕ) (z : ℤ) : Type 0 where
  pub low : pos 0 ≤ℤ (z +ℤ pos (2 ^ (n - 1)))
  pub high : z <ℤ pos (2 ^ (n - 1))

-- each immediate, offset and distance is in the range of its field
abbrev pub IsInRange : Instr → Type 0
IsInRange (Upper op rd immediate) = immediate < 2 ^ 20
IsInRange (Jump rd distance) = FitsBits 21 distance
IsInRange (JumpRegister rd rs1 offset) = FitsBits 12 offset
IsInRange (Branch op rs1 rs2 distance) = FitsBits 13 distance
IsInRange (Load op rd rs1 offset) = FitsBits 12 offset
IsInRange (Store op rs2 rs1 offset) = FitsBits 12 offset
IsInRange (Immediate op rd rs1 immediate) = FitsBits 12 immediate
IsInRange i = Unit {0}

abbrev pub IsEven : ℤ → Type 0
IsEven z = unsigned_abs z % 2 ≡ 0

-- the distance of a jump or branch, which its word holds without the lowest bit, is even
abbrev pub HasEvenDistance : Instr → Type 0
HasEvenDistance (Jump rd distance) = IsEven distance
HasEvenDistance (Branch op rs1 rs2 distance) = IsEven distance
HasEvenDistance i = Unit {0}

-- a shift is by fewer bits than are shifted
abbrev pub HasShiftInRange : Instr → Type 0
HasShiftInRange (Shift op rd rs1 amount) = amount < 2 ^ shift_bits op
HasShiftInRange i = Unit {0}

-- a word can hold each operand
pub record IsChecked (i : Instr) : Type 0 where
  pub in_range : IsInRange i
  pub even : HasEvenDistance i
  pub shift : HasShiftInRange i
