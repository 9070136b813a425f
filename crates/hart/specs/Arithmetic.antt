-- The results of the operations on registers, as whole numbers. Each rule stands once over n, the number of low bits
-- that it works on: 64, and 32 for the operations on words.
-- Source: RISC-V Unprivileged ISA 20191213, chapter 2 ("Integer Computational Instructions") and chapter 5 (RV64I).
use Rattle.std.specs.Prelude.{ℕ, pos, ◌+◌, ◌*◌, ◌/◌, ◌%◌, ◌^◌, ◌-ℤ◌, ◌≡◌, ◌⊎◌, Bool, nat_lt, int_lt, bit_and, bit_or, bit_xor}
use Rattle.std.specs.Int.{int_shr}
use Rattle.word_bits.specs.Numbers.{signed, wrap}
use Rattle.isa_table.specs.Operands.{flag}
use Rattle.isa_table.specs.declared.instruction.RegisterOp.{RegisterOp}
use Rattle.isa_table.specs.declared.instruction.RegisterOp.TheVariants.{Add, Sub, Sll, Slt, Sltu, Xor, Srl, Sra, Or, And, Addw, Subw, Sllw, Srlw, Sraw}
use Rattle.isa_table.specs.declared.instruction.ImmediateOp.{ImmediateOp}
use Rattle.isa_table.specs.declared.instruction.ImmediateOp.TheVariants.{Addi, Slti, Sltiu, Xori, Ori, Andi, Addiw}
use Rattle.isa_table.specs.declared.instruction.ShiftOp.{ShiftOp}
use Rattle.isa_table.specs.declared.instruction.ShiftOp.TheVariants.{Slli, Srli, Srai, Slliw, Srliw, Sraiw}

-- the bits of a word or a doubleword
abbrev pub IsSize : ℕ → Type 0
IsSize n = (n ≡ 32) ⊎ (n ≡ 64)

-- the low n bits of x with their sign, as a register holds them
abbrev pub extended : ℕ → ℕ → ℕ
extended n x = wrap (signed x n)

abbrev pub sum_of : ℕ → ℕ → ℕ → ℕ
sum_of n a b = extended n (a + b)

abbrev pub difference_of : ℕ → ℕ → ℕ → ℕ
difference_of n a b = extended n (wrap (pos a -ℤ pos b))

-- shifts are by b modulo n bits: to the left, to the right with zeros, and to the right with copies of the sign, which
-- is a division that rounds down
abbrev pub left_shift_of : ℕ → ℕ → ℕ → ℕ
left_shift_of n a b = extended n (a * 2 ^ (b % n))

abbrev pub logical_shift_of : ℕ → ℕ → ℕ → ℕ
logical_shift_of n a b = extended n (a % 2 ^ n / 2 ^ (b % n))

abbrev pub arithmetic_shift_of : ℕ → ℕ → ℕ → ℕ
arithmetic_shift_of n a b = wrap (int_shr (signed a n) (b % n))

-- whether a is less than b, as signed numbers and as unsigned ones
abbrev pub is_less : ℕ → ℕ → ℕ → Bool
is_less n a b = int_lt (signed a n) (signed b n)

abbrev pub is_below : ℕ → ℕ → ℕ → Bool
is_below n a b = nat_lt (a % 2 ^ n) (b % 2 ^ n)

-- by the mnemonic, from the values of rs1 and rs2
abbrev pub result_of : RegisterOp → ℕ → ℕ → ℕ
result_of Add a b = sum_of 64 a b
result_of Addw a b = sum_of 32 a b
result_of Sub a b = difference_of 64 a b
result_of Subw a b = difference_of 32 a b
result_of Sll a b = left_shift_of 64 a b
result_of Sllw a b = left_shift_of 32 a b
result_of Srl a b = logical_shift_of 64 a b
result_of Srlw a b = logical_shift_of 32 a b
result_of Sra a b = arithmetic_shift_of 64 a b
result_of Sraw a b = arithmetic_shift_of 32 a b
result_of Slt a b = flag (is_less 64 a b)
result_of Sltu a b = flag (is_below 64 a b)
result_of Xor a b = bit_xor a b
result_of Or a b = bit_or a b
result_of And a b = bit_and a b

-- the operation that an immediate takes part in as the value of rs2, sign-extended to a register
abbrev pub immediate_operation : ImmediateOp → RegisterOp
immediate_operation Addi = Add
immediate_operation Addiw = Addw
immediate_operation Slti = Slt
immediate_operation Sltiu = Sltu
immediate_operation Xori = Xor
immediate_operation Ori = Or
immediate_operation Andi = And

-- the operation that the fixed amount of a shift takes part in as the value of rs2
abbrev pub shift_operation : ShiftOp → RegisterOp
shift_operation Slli = Sll
shift_operation Slliw = Sllw
shift_operation Srli = Srl
shift_operation Srliw = Srlw
shift_operation Srai = Sra
shift_operation Sraiw = Sraw
