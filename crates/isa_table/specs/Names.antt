-- The names of the instructions.
-- Source: RISC-V Unprivileged ISA 20191213, chapter 24 (opcode listings) and chapter 8 for the ends of the atomics'
-- names; RISC-V Cache Management Operations 1.0 for the `cbo` instructions.
use Rattle.std.specs.Prelude.{ℕ, Bool, true, false, List, [], ◌++◌, codes}
use Rattle.isa_table.specs.declared.instruction.Instr.{Instr}
use Rattle.isa_table.specs.declared.instruction.Instr.TheVariants.{Upper, Jump, JumpRegister, Branch, Load, Store, Immediate, Shift, Register, Fence, FenceI, Cache, LoadReserved, Atomic, System}
use Rattle.isa_table.specs.declared.instruction.UpperOp.{UpperOp}
use Rattle.isa_table.specs.declared.instruction.UpperOp.TheVariants.{Lui, Auipc}
use Rattle.isa_table.specs.declared.instruction.BranchOp.{BranchOp}
use Rattle.isa_table.specs.declared.instruction.BranchOp.TheVariants.{Beq, Bne, Blt, Bge, Bltu, Bgeu}
use Rattle.isa_table.specs.declared.instruction.LoadOp.{LoadOp}
use Rattle.isa_table.specs.declared.instruction.LoadOp.TheVariants.{Lb, Lh, Lw, Ld, Lbu, Lhu, Lwu}
use Rattle.isa_table.specs.declared.instruction.StoreOp.{StoreOp}
use Rattle.isa_table.specs.declared.instruction.StoreOp.TheVariants.{Sb, Sh, Sw, Sd}
use Rattle.isa_table.specs.declared.instruction.ImmediateOp.{ImmediateOp}
use Rattle.isa_table.specs.declared.instruction.ImmediateOp.TheVariants.{Addi, Slti, Sltiu, Xori, Ori, Andi, Addiw}
use Rattle.isa_table.specs.declared.instruction.ShiftOp.{ShiftOp}
use Rattle.isa_table.specs.declared.instruction.ShiftOp.TheVariants.{Slli, Srli, Srai, Slliw, Srliw, Sraiw}
use Rattle.isa_table.specs.declared.instruction.RegisterOp.{RegisterOp}
use Rattle.isa_table.specs.declared.instruction.RegisterOp.TheVariants.{Add, Sub, Sll, Slt, Sltu, Xor, Srl, Sra, Or, And, Addw, Subw, Sllw, Srlw, Sraw}
use Rattle.isa_table.specs.declared.instruction.CacheOp.{CacheOp}
use Rattle.isa_table.specs.declared.instruction.CacheOp.TheVariants.{Inval, Clean, Flush}
use Rattle.isa_table.specs.declared.instruction.AtomicWidth.{AtomicWidth}
use Rattle.isa_table.specs.declared.instruction.AtomicWidth.TheVariants.{Word, Doubleword}
use Rattle.isa_table.specs.declared.instruction.AtomicOp.{AtomicOp}
use Rattle.isa_table.specs.declared.instruction.AtomicOp.TheVariants.{Sc, Amoswap, Amoadd, Amoxor, Amoand, Amoor, Amomin, Amomax, Amominu, Amomaxu}
use Rattle.isa_table.specs.declared.instruction.SystemOp.{SystemOp}
use Rattle.isa_table.specs.declared.instruction.SystemOp.TheVariants.{Ecall, Ebreak}

abbrev pub upper_name : UpperOp → List ℕ
upper_name Lui = codes "lui"
upper_name Auipc = codes "auipc"

abbrev pub branch_name : BranchOp → List ℕ
branch_name Beq = codes "beq"
branch_name Bne = codes "bne"
branch_name Blt = codes "blt"
branch_name Bge = codes "bge"
branch_name Bltu = codes "bltu"
branch_name Bgeu = codes "bgeu"

abbrev pub load_name : LoadOp → List ℕ
load_name Lb = codes "lb"
load_name Lh = codes "lh"
load_name Lw = codes "lw"
load_name Ld = codes "ld"
load_name Lbu = codes "lbu"
load_name Lhu = codes "lhu"
load_name Lwu = codes "lwu"

abbrev pub store_name : StoreOp → List ℕ
store_name Sb = codes "sb"
store_name Sh = codes "sh"
store_name Sw = codes "sw"
store_name Sd = codes "sd"

abbrev pub immediate_name : ImmediateOp → List ℕ
immediate_name Addi = codes "addi"
immediate_name Slti = codes "slti"
immediate_name Sltiu = codes "sltiu"
immediate_name Xori = codes "xori"
immediate_name Ori = codes "ori"
immediate_name Andi = codes "andi"
immediate_name Addiw = codes "addiw"

abbrev pub shift_name : ShiftOp → List ℕ
shift_name Slli = codes "slli"
shift_name Srli = codes "srli"
shift_name Srai = codes "srai"
shift_name Slliw = codes "slliw"
shift_name Srliw = codes "srliw"
shift_name Sraiw = codes "sraiw"

abbrev pub register_name : RegisterOp → List ℕ
register_name Add = codes "add"
register_name Sub = codes "sub"
register_name Sll = codes "sll"
register_name Slt = codes "slt"
register_name Sltu = codes "sltu"
register_name Xor = codes "xor"
register_name Srl = codes "srl"
register_name Sra = codes "sra"
register_name Or = codes "or"
register_name And = codes "and"
register_name Addw = codes "addw"
register_name Subw = codes "subw"
register_name Sllw = codes "sllw"
register_name Srlw = codes "srlw"
register_name Sraw = codes "sraw"

abbrev pub cache_name : CacheOp → List ℕ
cache_name Inval = codes "cbo.inval"
cache_name Clean = codes "cbo.clean"
cache_name Flush = codes "cbo.flush"

abbrev pub system_name : SystemOp → List ℕ
system_name Ecall = codes "ecall"
system_name Ebreak = codes "ebreak"

-- the name of an atomic instruction without its width and its ordering
abbrev pub atomic_name : AtomicOp → List ℕ
atomic_name Sc = codes "sc"
atomic_name Amoswap = codes "amoswap"
atomic_name Amoadd = codes "amoadd"
atomic_name Amoxor = codes "amoxor"
atomic_name Amoand = codes "amoand"
atomic_name Amoor = codes "amoor"
atomic_name Amomin = codes "amomin"
atomic_name Amomax = codes "amomax"
atomic_name Amominu = codes "amominu"
atomic_name Amomaxu = codes "amomaxu"

-- the end of an atomic instruction's name: its width, and then its bits aq and rl
abbrev pub width_suffix : AtomicWidth → List ℕ
width_suffix Word = codes ".w"
width_suffix Doubleword = codes ".d"

abbrev pub ordering_suffix : Bool → Bool → List ℕ
ordering_suffix false false = []
ordering_suffix true false = codes ".aq"
ordering_suffix false true = codes ".rl"
ordering_suffix true true = codes ".aqrl"

abbrev pub atomic_suffix : AtomicWidth → Bool → Bool → List ℕ
atomic_suffix width acquire release = width_suffix width ++ ordering_suffix acquire release

-- the name of an instruction
abbrev pub mnemonic : Instr → List ℕ
mnemonic (Upper op rd immediate) = upper_name op
mnemonic (Jump rd distance) = codes "jal"
mnemonic (JumpRegister rd rs1 offset) = codes "jalr"
mnemonic (Branch op rs1 rs2 distance) = branch_name op
mnemonic (Load op rd rs1 offset) = load_name op
mnemonic (Store op rs2 rs1 offset) = store_name op
mnemonic (Immediate op rd rs1 immediate) = immediate_name op
mnemonic (Shift op rd rs1 amount) = shift_name op
mnemonic (Register op rd rs1 rs2) = register_name op
mnemonic (Fence predecessor successor) = codes "fence"
mnemonic FenceI = codes "fence.i"
mnemonic (Cache op rs1) = cache_name op
mnemonic (LoadReserved width rd rs1 acquire release) = codes "lr" ++ atomic_suffix width acquire release
mnemonic (Atomic op width rd rs1 rs2 acquire release) = atomic_name op ++ atomic_suffix width acquire release
mnemonic (System op) = system_name op
