-- Accesses to memory: how many bytes, what a load makes of them, and what an atomic operation stores. The value of an
-- access is the number that its bytes spell, the least significant first.
-- Source: RISC-V Unprivileged ISA 20191213, chapter 2 ("Load and Store Instructions"), chapter 5 (RV64I) and chapter 8
-- ("A" extension).
use Rattle.std.specs.Prelude.{ℕ, ◌+◌, ◌*◌, ◌%◌, ◌^◌, if◌then◌else◌, bit_and, bit_or, bit_xor}
use Rattle.isa_table.specs.declared.instruction.LoadOp.{LoadOp}
use Rattle.isa_table.specs.declared.instruction.LoadOp.TheVariants.{Lb, Lh, Lw, Ld, Lbu, Lhu, Lwu}
use Rattle.isa_table.specs.declared.instruction.StoreOp.{StoreOp}
use Rattle.isa_table.specs.declared.instruction.StoreOp.TheVariants.{Sb, Sh, Sw, Sd}
use Rattle.isa_table.specs.declared.instruction.AtomicWidth.{AtomicWidth}
use Rattle.isa_table.specs.declared.instruction.AtomicWidth.TheVariants.{Word, Doubleword}
use Rattle.isa_table.specs.declared.instruction.AtomicOp.{AtomicOp}
use Rattle.isa_table.specs.declared.instruction.AtomicOp.TheVariants.{Sc, Amoswap, Amoadd, Amoxor, Amoand, Amoor, Amomin, Amomax, Amominu, Amomaxu}
use Rattle.hart.specs.Arithmetic.{extended, is_less, is_below}

abbrev pub load_width : LoadOp → ℕ
load_width Lb = 1
load_width Lbu = 1
load_width Lh = 2
load_width Lhu = 2
load_width Lw = 4
load_width Lwu = 4
load_width Ld = 8

abbrev pub store_width : StoreOp → ℕ
store_width Sb = 1
store_width Sh = 2
store_width Sw = 4
store_width Sd = 8

abbrev pub atomic_width : AtomicWidth → ℕ
atomic_width Word = 4
atomic_width Doubleword = 8

-- the register after a load that found this value
abbrev pub load_result : LoadOp → ℕ → ℕ
load_result Lb value = extended 8 value
load_result Lh value = extended 16 value
load_result Lw value = extended 32 value
load_result Ld value = extended 64 value
load_result Lbu value = value % 2 ^ 8
load_result Lhu value = value % 2 ^ 16
load_result Lwu value = value % 2 ^ 32

-- the register after an atomic instruction that was answered with this value: for SC 0 or 1, else what memory held
abbrev pub atomic_result : AtomicOp → ℕ → ℕ → ℕ
atomic_result Sc width value = value
atomic_result op width value = extended (8 * width) value

-- what an operation on n bits makes of the value in memory and of the value of rs2; all but the low n bits is ignored
abbrev pub combination_of : AtomicOp → ℕ → ℕ → ℕ → ℕ
combination_of Sc n old operand = operand
combination_of Amoswap n old operand = operand
combination_of Amoadd n old operand = old + operand
combination_of Amoxor n old operand = bit_xor old operand
combination_of Amoand n old operand = bit_and old operand
combination_of Amoor n old operand = bit_or old operand
combination_of Amomin n old operand = if is_less n operand old then operand else old
combination_of Amomax n old operand = if is_less n old operand then operand else old
combination_of Amominu n old operand = if is_below n operand old then operand else old
combination_of Amomaxu n old operand = if is_below n old operand then operand else old

-- what it stores in its width bytes
abbrev pub amo_result : AtomicOp → ℕ → ℕ → ℕ → ℕ
amo_result op width old operand = combination_of op (8 * width) old operand % 2 ^ (8 * width)
