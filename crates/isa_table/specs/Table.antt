-- The instruction table: for each mnemonic a mask and a match value, and which words spell an instruction.
-- Source: RISC-V Unprivileged ISA 20191213, chapter 24 (opcode listings), with chapters 2, 3, 5 and 8;
-- RISC-V Cache Management Operations 1.0 for the `cbo` instructions.
use Rattle.std.specs.Prelude.{◌≡◌, ℕ, ◌+◌, ◌*◌, ◌^◌, bit_and}
use Rattle.isa_table.specs.declared.instruction.Instr.{Instr}
use Rattle.isa_table.specs.declared.instruction.Instr.TheVariants.{Upper, Jump, JumpRegister, Branch, Load, Store, Immediate, Shift, Register, Fence, FenceI, Cache, LoadReserved, Atomic, System}
use Rattle.isa_table.specs.declared.instruction.UpperOp.{UpperOp}
use Rattle.isa_table.specs.declared.instruction.UpperOp.TheVariants.{Lui, Auipc}
use Rattle.isa_table.specs.declared.instruction.BranchOp.{BranchOp}
use Rattle.isa_table.specs.declared.instruction.BranchOp.TheVariants.{Beq, Bne, Blt, Bge, Bltu, Bgeu}
use Rattle.isa_table.specs.declared.instruction.LoadOp.{LoadOp}
use Rattle.isa_table.specs.declared.instruction.LoadOp.TheVariants.{Lb, Lh, Lw, Ld, Lbu, Lhu, Lwu}
use Rattle.isa_table.specs.declared.instruction.StoreOp.{StoreOp}
use Rattle.isa_table.specs.declared.instruction.StoreOp.TheVariants.{Sb, Sh, Sw, Sd}
use Rattle.isa_table.specs.declared.instruction.ImmediateOp.{ImmediateOp}
use Rattle.isa_table.specs.declared.instruction.ImmediateOp.TheVariants.{Addi, Slti, Sltiu, Xori, Ori, Andi, Addiw}
use Rattle.isa_table.specs.declared.instruction.ShiftOp.{ShiftOp}
use Rattle.isa_table.specs.declared.instruction.ShiftOp.TheVariants.{Slli, Srli, Srai, Slliw, Srliw, Sraiw}
use Rattle.isa_table.specs.declared.instruction.RegisterOp.{RegisterOp}
use Rattle.isa_table.specs.declared.instruction.RegisterOp.TheVariants.{Add, Sub, Sll, Slt, Sltu, Xor, Srl, Sra, Or, And, Addw, Subw, Sllw, Srlw, Sraw}
use Rattle.isa_table.specs.declared.instruction.CacheOp.{CacheOp}
use Rattle.isa_table.specs.declared.instruction.CacheOp.TheVariants.{Inval, Clean, Flush}
use Rattle.isa_table.specs.declared.instruction.AtomicWidth.{AtomicWidth}
use Rattle.isa_table.specs.declared.instruction.AtomicWidth.TheVariants.{Word, Doubleword}
use Rattle.isa_table.specs.declared.instruction.AtomicOp.{AtomicOp}
use Rattle.isa_table.specs.declared.instruction.AtomicOp.TheVariants.{Sc, Amoswap, Amoadd, Amoxor, Amoand, Amoor, Amomin, Amomax, Amominu, Amomaxu}
use Rattle.isa_table.specs.declared.instruction.SystemOp.{SystemOp}
use Rattle.isa_table.specs.declared.instruction.SystemOp.TheVariants.{Ecall, Ebreak}
use Rattle.isa_table.specs.declared.keys.Key.{Key}
use Rattle.isa_table.specs.Operands.{HasOperands, HasZeros}

-- U-type: bits 6 to 0
abbrev pub upper_opcode : UpperOp → ℕ
upper_opcode Lui = 0x37
upper_opcode Auipc = 0x17

-- B-type, opcode 1100011: bits 14 to 12
abbrev pub branch_funct3 : BranchOp → ℕ
branch_funct3 Beq = 0
branch_funct3 Bne = 1
branch_funct3 Blt = 4
branch_funct3 Bge = 5
branch_funct3 Bltu = 6
branch_funct3 Bgeu = 7

-- I-type, opcode 0000011: bits 14 to 12
abbrev pub load_funct3 : LoadOp → ℕ
load_funct3 Lb = 0
load_funct3 Lh = 1
load_funct3 Lw = 2
load_funct3 Ld = 3
load_funct3 Lbu = 4
load_funct3 Lhu = 5
load_funct3 Lwu = 6

-- S-type, opcode 0100011: bits 14 to 12
abbrev pub store_funct3 : StoreOp → ℕ
store_funct3 Sb = 0
store_funct3 Sh = 1
store_funct3 Sw = 2
store_funct3 Sd = 3

-- the fields that tell the mnemonics of a format apart: bits 6 to 0, bits 14 to 12, and those from the top on that the format names
abbrev pub key : ℕ → ℕ → ℕ → Key
key opcode funct3 top = record { opcode = opcode; funct3 = funct3; top = top }

-- I-type, on doublewords 0010011 and on words 0011011
abbrev pub immediate_key : ImmediateOp → Key
immediate_key Addi = key 0x13 0 0
immediate_key Slti = key 0x13 2 0
immediate_key Sltiu = key 0x13 3 0
immediate_key Xori = key 0x13 4 0
immediate_key Ori = key 0x13 6 0
immediate_key Andi = key 0x13 7 0
immediate_key Addiw = key 0x1b 0 0

-- I-type with a shift: its top are bits 31 to 26
abbrev pub shift_key : ShiftOp → Key
shift_key Slli = key 0x13 1 0
shift_key Srli = key 0x13 5 0
shift_key Srai = key 0x13 5 0b010000
shift_key Slliw = key 0x1b 1 0
shift_key Srliw = key 0x1b 5 0
shift_key Sraiw = key 0x1b 5 0b010000

-- bit 25 is of the amount where doublewords are shifted, and zero where words are
abbrev pub shift_mask : ShiftOp → ℕ
shift_mask Slli = 0xfc00707f
shift_mask Srli = 0xfc00707f
shift_mask Srai = 0xfc00707f
shift_mask Slliw = 0xfe00707f
shift_mask Srliw = 0xfe00707f
shift_mask Sraiw = 0xfe00707f

-- R-type, on doublewords 0110011 and on words 0111011: its top are bits 31 to 25
abbrev pub register_key : RegisterOp → Key
register_key Add = key 0x33 0 0
register_key Sub = key 0x33 0 0b0100000
register_key Sll = key 0x33 1 0
register_key Slt = key 0x33 2 0
register_key Sltu = key 0x33 3 0
register_key Xor = key 0x33 4 0
register_key Srl = key 0x33 5 0
register_key Sra = key 0x33 5 0b0100000
register_key Or = key 0x33 6 0
register_key And = key 0x33 7 0
register_key Addw = key 0x3b 0 0
register_key Subw = key 0x3b 0 0b0100000
register_key Sllw = key 0x3b 1 0
register_key Srlw = key 0x3b 5 0
register_key Sraw = key 0x3b 5 0b0100000

-- cbo, opcode 0001111 with 010 in bits 14 to 12: bits 31 to 20
abbrev pub cache_function : CacheOp → ℕ
cache_function Inval = 0
cache_function Clean = 1
cache_function Flush = 2

-- atomics, opcode 0101111: bits 14 to 12
abbrev pub width_funct3 : AtomicWidth → ℕ
width_funct3 Word = 2
width_funct3 Doubleword = 3

-- atomics but LR, opcode 0101111: bits 31 to 27
abbrev pub atomic_funct5 : AtomicOp → ℕ
atomic_funct5 Sc = 0b00011
atomic_funct5 Amoswap = 0b00001
atomic_funct5 Amoadd = 0b00000
atomic_funct5 Amoxor = 0b00100
atomic_funct5 Amoand = 0b01100
atomic_funct5 Amoor = 0b01000
atomic_funct5 Amomin = 0b10000
atomic_funct5 Amomax = 0b10100
atomic_funct5 Amominu = 0b11000
atomic_funct5 Amomaxu = 0b11100

-- the whole word
abbrev pub system_word : SystemOp → ℕ
system_word Ecall = 0x00000073
system_word Ebreak = 0x00100073

-- a row of the table: a word is of the row where its bits under the mask equal the match value
pub record Row : Type 0 where
  pub mask : ℕ
  pub value : ℕ

abbrev pub row : ℕ → ℕ → Row
row mask value = record { mask = mask; value = value }

-- the row of an instruction's mnemonic
abbrev pub row_of : Instr → Row
row_of (Upper op rd immediate) = row 0x7f (upper_opcode op)
row_of (Jump rd distance) = row 0x7f 0x6f
row_of (JumpRegister rd rs1 offset) = row 0x707f 0x67
row_of (Branch op rs1 rs2 distance) = row 0x707f (0x63 + branch_funct3 op * 2 ^ 12)
row_of (Load op rd rs1 offset) = row 0x707f (0x03 + load_funct3 op * 2 ^ 12)
row_of (Store op rs2 rs1 offset) = row 0x707f (0x23 + store_funct3 op * 2 ^ 12)
row_of (Immediate op rd rs1 immediate) = row 0x707f ((immediate_key op).opcode + (immediate_key op).funct3 * 2 ^ 12)
row_of (Shift op rd rs1 amount) =
    row (shift_mask op) ((shift_key op).opcode + (shift_key op).funct3 * 2 ^ 12 + (shift_key op).top * 2 ^ 26)
row_of (Register op rd rs1 rs2) =
    row 0xfe00707f ((register_key op).opcode + (register_key op).funct3 * 2 ^ 12 + (register_key op).top * 2 ^ 25)
row_of (Fence predecessor successor) = row 0x707f 0x0f
row_of FenceI = row 0x707f 0x100f
row_of (Cache op rs1) = row 0xfff07fff (0x200f + cache_function op * 2 ^ 20)
row_of (LoadReserved width rd rs1 acquire release) = row 0xf9f0707f (0x2f + width_funct3 width * 2 ^ 12 + 0b00010 * 2 ^ 27)
row_of (Atomic op width rd rs1 rs2 acquire release) =
    row 0xf800707f (0x2f + width_funct3 width * 2 ^ 12 + atomic_funct5 op * 2 ^ 27)
row_of (System op) = row 0xffffffff (system_word op)

-- word w spells instruction i: it is of i's row, and its fields give i's operands
pub record Spells (w : ℕ) (i : Instr) : Type 0 where
  pub row : bit_and w (row_of i).mask ≡ (row_of i).value
  pub operands : HasOperands w i

-- word w is the spelling of i with zeros in the fields that decoding ignores
pub record IsCanonical (w : ℕ) (i : Instr) : Type 0 where
  pub spells : Spells w i
  pub zeros : HasZeros w i
