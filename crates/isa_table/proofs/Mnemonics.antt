-- What the numbers of the mnemonics of one shape have in common, and that they tell the mnemonics apart.
use Rattle.std.proofs.Common.{◌≡◌, ◌%◌, ◌^◌, ◌<◌, ◌⊎◌, inl, inr, refl, arith, lit<}
use Rattle.isa_table.specs.declared.instruction.UpperOp.{UpperOp}
use Rattle.isa_table.specs.declared.instruction.UpperOp.TheVariants.{Lui, Auipc}
use Rattle.isa_table.specs.declared.instruction.BranchOp.{BranchOp}
use Rattle.isa_table.specs.declared.instruction.BranchOp.TheVariants.{Beq, Bne, Blt, Bge, Bltu, Bgeu}
use Rattle.isa_table.specs.declared.instruction.LoadOp.{LoadOp}
use Rattle.isa_table.specs.declared.instruction.LoadOp.TheVariants.{Lb, Lh, Lw, Ld, Lbu, Lhu, Lwu}
use Rattle.isa_table.specs.declared.instruction.StoreOp.{StoreOp}
use Rattle.isa_table.specs.declared.instruction.StoreOp.TheVariants.{Sb, Sh, Sw, Sd}
use Rattle.isa_table.specs.declared.instruction.ImmediateOp.{ImmediateOp}
use Rattle.isa_table.specs.declared.instruction.ImmediateOp.TheVariants.{Addi, Slti, Sltiu, Xori, Ori, Andi, Addiw}
use Rattle.isa_table.specs.declared.instruction.ShiftOp.{ShiftOp}
use Rattle.isa_table.specs.declared.instruction.ShiftOp.TheVariants.{Slli, Srli, Srai, Slliw, Srliw, Sraiw}
use Rattle.isa_table.specs.declared.instruction.RegisterOp.{RegisterOp}
use Rattle.isa_table.specs.declared.instruction.RegisterOp.TheVariants.{Add, Sub, Sll, Slt, Sltu, Xor, Srl, Sra, Or, And, Addw, Subw, Sllw, Srlw, Sraw}
use Rattle.isa_table.specs.declared.instruction.CacheOp.{CacheOp}
use Rattle.isa_table.specs.declared.instruction.CacheOp.TheVariants.{Inval, Clean, Flush}
use Rattle.isa_table.specs.declared.instruction.AtomicWidth.{AtomicWidth}
use Rattle.isa_table.specs.declared.instruction.AtomicWidth.TheVariants.{Word, Doubleword}
use Rattle.isa_table.specs.declared.instruction.AtomicOp.{AtomicOp}
use Rattle.isa_table.specs.declared.instruction.AtomicOp.TheVariants.{Sc, Amoswap, Amoadd, Amoxor, Amoand, Amoor, Amomin, Amomax, Amominu, Amomaxu}
use Rattle.isa_table.specs.declared.instruction.SystemOp.{SystemOp}
use Rattle.isa_table.specs.declared.instruction.SystemOp.TheVariants.{Ecall, Ebreak}
use Rattle.isa_table.specs.Table.{upper_opcode, branch_funct3, load_funct3, store_funct3, immediate_key, shift_key, register_key, cache_function, width_funct3, atomic_funct5, system_word}

pub upper_opcodes : (op : UpperOp) → (upper_opcode op ≡ 0x37) ⊎ (upper_opcode op ≡ 0x17)
upper_opcodes Lui = inl refl
upper_opcodes Auipc = inr refl

pub immediate_opcodes : (op : ImmediateOp) → ((immediate_key op).opcode ≡ 0x13) ⊎ ((immediate_key op).opcode ≡ 0x1b)
immediate_opcodes Addi = inl refl
immediate_opcodes Slti = inl refl
immediate_opcodes Sltiu = inl refl
immediate_opcodes Xori = inl refl
immediate_opcodes Ori = inl refl
immediate_opcodes Andi = inl refl
immediate_opcodes Addiw = inr refl

pub shift_opcodes : (op : ShiftOp) → ((shift_key op).opcode ≡ 0x13) ⊎ ((shift_key op).opcode ≡ 0x1b)
shift_opcodes Slli = inl refl
shift_opcodes Srli = inl refl
shift_opcodes Srai = inl refl
shift_opcodes Slliw = inr refl
shift_opcodes Srliw = inr refl
shift_opcodes Sraiw = inr refl

pub register_opcodes : (op : RegisterOp) → ((register_key op).opcode ≡ 0x33) ⊎ ((register_key op).opcode ≡ 0x3b)
register_opcodes Add = inl refl
register_opcodes Sub = inl refl
register_opcodes Sll = inl refl
register_opcodes Slt = inl refl
register_opcodes Sltu = inl refl
register_opcodes Xor = inl refl
register_opcodes Srl = inl refl
register_opcodes Sra = inl refl
register_opcodes Or = inl refl
register_opcodes And = inl refl
register_opcodes Addw = inr refl
register_opcodes Subw = inr refl
register_opcodes Sllw = inr refl
register_opcodes Srlw = inr refl
register_opcodes Sraw = inr refl

pub shift_funct3s : (op : ShiftOp) → ((shift_key op).funct3 ≡ 1) ⊎ ((shift_key op).funct3 ≡ 5)
shift_funct3s Slli = inl refl
shift_funct3s Srli = inr refl
shift_funct3s Srai = inr refl
shift_funct3s Slliw = inl refl
shift_funct3s Srliw = inr refl
shift_funct3s Sraiw = inr refl

-- the other operations with an immediate have other numbers
pub immediate_unshifted : (op : ImmediateOp) → ((immediate_key op).funct3 ≡ 1) ⊎ ((immediate_key op).funct3 ≡ 5) → ⊥
immediate_unshifted Addi e = absurd (grind arith)
immediate_unshifted Slti e = absurd (grind arith)
immediate_unshifted Sltiu e = absurd (grind arith)
immediate_unshifted Xori e = absurd (grind arith)
immediate_unshifted Ori e = absurd (grind arith)
immediate_unshifted Andi e = absurd (grind arith)
immediate_unshifted Addiw e = absurd (grind arith)

-- no other atomic has LR's number
pub atomic_stores : (op : AtomicOp) → atomic_funct5 op ≡ 0x02 → ⊥
atomic_stores Sc e = absurd (omega arith)
atomic_stores Amoswap e = absurd (omega arith)
atomic_stores Amoadd e = absurd (omega arith)
atomic_stores Amoxor e = absurd (omega arith)
atomic_stores Amoand e = absurd (omega arith)
atomic_stores Amoor e = absurd (omega arith)
atomic_stores Amomin e = absurd (omega arith)
atomic_stores Amomax e = absurd (omega arith)
atomic_stores Amominu e = absurd (omega arith)
atomic_stores Amomaxu e = absurd (omega arith)

pub immediate_opcode_small : (op : ImmediateOp) → (immediate_key op).opcode < 2 ^ 7
immediate_opcode_small Addi = lit< tt
immediate_opcode_small Slti = lit< tt
immediate_opcode_small Sltiu = lit< tt
immediate_opcode_small Xori = lit< tt
immediate_opcode_small Ori = lit< tt
immediate_opcode_small Andi = lit< tt
immediate_opcode_small Addiw = lit< tt

pub register_opcode_small : (op : RegisterOp) → (register_key op).opcode < 2 ^ 7
register_opcode_small Add = lit< tt
register_opcode_small Sub = lit< tt
register_opcode_small Sll = lit< tt
register_opcode_small Slt = lit< tt
register_opcode_small Sltu = lit< tt
register_opcode_small Xor = lit< tt
register_opcode_small Srl = lit< tt
register_opcode_small Sra = lit< tt
register_opcode_small Or = lit< tt
register_opcode_small And = lit< tt
register_opcode_small Addw = lit< tt
register_opcode_small Subw = lit< tt
register_opcode_small Sllw = lit< tt
register_opcode_small Srlw = lit< tt
register_opcode_small Sraw = lit< tt

pub shift_opcode_small : (op : ShiftOp) → (shift_key op).opcode < 2 ^ 7
shift_opcode_small Slli = lit< tt
shift_opcode_small Srli = lit< tt
shift_opcode_small Srai = lit< tt
shift_opcode_small Slliw = lit< tt
shift_opcode_small Srliw = lit< tt
shift_opcode_small Sraiw = lit< tt

pub shift_funct3_small : (op : ShiftOp) → (shift_key op).funct3 < 2 ^ 3
shift_funct3_small Slli = lit< tt
shift_funct3_small Srli = lit< tt
shift_funct3_small Srai = lit< tt
shift_funct3_small Slliw = lit< tt
shift_funct3_small Srliw = lit< tt
shift_funct3_small Sraiw = lit< tt

pub shift_funct6_small : (op : ShiftOp) → (shift_key op).top < 2 ^ 6
shift_funct6_small Slli = lit< tt
shift_funct6_small Srli = lit< tt
shift_funct6_small Srai = lit< tt
shift_funct6_small Slliw = lit< tt
shift_funct6_small Srliw = lit< tt
shift_funct6_small Sraiw = lit< tt

pub register_funct3_small : (op : RegisterOp) → (register_key op).funct3 < 2 ^ 3
register_funct3_small Add = lit< tt
register_funct3_small Sub = lit< tt
register_funct3_small Sll = lit< tt
register_funct3_small Slt = lit< tt
register_funct3_small Sltu = lit< tt
register_funct3_small Xor = lit< tt
register_funct3_small Srl = lit< tt
register_funct3_small Sra = lit< tt
register_funct3_small Or = lit< tt
register_funct3_small And = lit< tt
register_funct3_small Addw = lit< tt
register_funct3_small Subw = lit< tt
register_funct3_small Sllw = lit< tt
register_funct3_small Srlw = lit< tt
register_funct3_small Sraw = lit< tt

pub width_funct3_small : (op : AtomicWidth) → width_funct3 op < 2 ^ 3
width_funct3_small Word = lit< tt
width_funct3_small Doubleword = lit< tt

pub system_opcode : (op : SystemOp) → system_word op % 2 ^ 7 ≡ 0x73
system_opcode Ecall = refl
system_opcode Ebreak = refl

-- two mnemonics of one shape with the same numbers are one

pub upper_op_same : (a b : UpperOp) → upper_opcode a ≡ upper_opcode b → a ≡ b
upper_op_same Lui Lui e = refl
upper_op_same Auipc Auipc e = refl
upper_op_same a b e = absurd (omega arith)

pub branch_op_same : (a b : BranchOp) → branch_funct3 a ≡ branch_funct3 b → a ≡ b
branch_op_same Beq Beq e = refl
branch_op_same Bne Bne e = refl
branch_op_same Blt Blt e = refl
branch_op_same Bge Bge e = refl
branch_op_same Bltu Bltu e = refl
branch_op_same Bgeu Bgeu e = refl
branch_op_same a b e = absurd (omega arith)

pub load_op_same : (a b : LoadOp) → load_funct3 a ≡ load_funct3 b → a ≡ b
load_op_same Lb Lb e = refl
load_op_same Lh Lh e = refl
load_op_same Lw Lw e = refl
load_op_same Ld Ld e = refl
load_op_same Lbu Lbu e = refl
load_op_same Lhu Lhu e = refl
load_op_same Lwu Lwu e = refl
load_op_same a b e = absurd (omega arith)

pub store_op_same : (a b : StoreOp) → store_funct3 a ≡ store_funct3 b → a ≡ b
store_op_same Sb Sb e = refl
store_op_same Sh Sh e = refl
store_op_same Sw Sw e = refl
store_op_same Sd Sd e = refl
store_op_same a b e = absurd (omega arith)

pub immediate_op_same : (a b : ImmediateOp) → (immediate_key a).opcode ≡ (immediate_key b).opcode → (immediate_key a).funct3 ≡ (immediate_key b).funct3 → a ≡ b
immediate_op_same Addi Addi e f = refl
immediate_op_same Slti Slti e f = refl
immediate_op_same Sltiu Sltiu e f = refl
immediate_op_same Xori Xori e f = refl
immediate_op_same Ori Ori e f = refl
immediate_op_same Andi Andi e f = refl
immediate_op_same Addiw Addiw e f = refl
immediate_op_same a b e f = absurd (omega arith)

pub shift_op_same : (a b : ShiftOp) → (shift_key a).opcode ≡ (shift_key b).opcode → (shift_key a).funct3 ≡ (shift_key b).funct3 → (shift_key a).top ≡ (shift_key b).top → a ≡ b
shift_op_same Slli Slli e f g = refl
shift_op_same Srli Srli e f g = refl
shift_op_same Srai Srai e f g = refl
shift_op_same Slliw Slliw e f g = refl
shift_op_same Srliw Srliw e f g = refl
shift_op_same Sraiw Sraiw e f g = refl
shift_op_same a b e f g = absurd (omega arith)

pub register_op_same : (a b : RegisterOp) → (register_key a).opcode ≡ (register_key b).opcode → (register_key a).funct3 ≡ (register_key b).funct3 → (register_key a).top ≡ (register_key b).top → a ≡ b
register_op_same Add Add e f g = refl
register_op_same Sub Sub e f g = refl
register_op_same Sll Sll e f g = refl
register_op_same Slt Slt e f g = refl
register_op_same Sltu Sltu e f g = refl
register_op_same Xor Xor e f g = refl
register_op_same Srl Srl e f g = refl
register_op_same Sra Sra e f g = refl
register_op_same Or Or e f g = refl
register_op_same And And e f g = refl
register_op_same Addw Addw e f g = refl
register_op_same Subw Subw e f g = refl
register_op_same Sllw Sllw e f g = refl
register_op_same Srlw Srlw e f g = refl
register_op_same Sraw Sraw e f g = refl
register_op_same a b e f g = absurd (omega arith)

pub cache_op_same : (a b : CacheOp) → cache_function a ≡ cache_function b → a ≡ b
cache_op_same Inval Inval e = refl
cache_op_same Clean Clean e = refl
cache_op_same Flush Flush e = refl
cache_op_same a b e = absurd (omega arith)

pub width_same : (a b : AtomicWidth) → width_funct3 a ≡ width_funct3 b → a ≡ b
width_same Word Word e = refl
width_same Doubleword Doubleword e = refl
width_same a b e = absurd (omega arith)

pub atomic_op_same : (a b : AtomicOp) → atomic_funct5 a ≡ atomic_funct5 b → a ≡ b
atomic_op_same Sc Sc e = refl
atomic_op_same Amoswap Amoswap e = refl
atomic_op_same Amoadd Amoadd e = refl
atomic_op_same Amoxor Amoxor e = refl
atomic_op_same Amoand Amoand e = refl
atomic_op_same Amoor Amoor e = refl
atomic_op_same Amomin Amomin e = refl
atomic_op_same Amomax Amomax e = refl
atomic_op_same Amominu Amominu e = refl
atomic_op_same Amomaxu Amomaxu e = refl
atomic_op_same a b e = absurd (omega arith)

pub system_op_same : (a b : SystemOp) → system_word a ≡ system_word b → a ≡ b
system_op_same Ecall Ecall e = refl
system_op_same Ebreak Ebreak e = refl
system_op_same a b e = absurd (omega arith)
