-- What a spelling says of its word's fields, and for each opcode which instructions its words can spell.
use Rattle.std.proofs.Common.{◌≡◌, ℕ, ◌^◌, ◌<◌, Bool, ◌⊎◌, refl, arith}
use Rattle.word_bits.specs.Numbers.{field}
use Rattle.isa_table.specs.declared.access.AccessSet.{AccessSet}
use Rattle.isa_table.specs.declared.instruction.Instr.{Instr}
use Rattle.isa_table.specs.declared.instruction.Instr.TheVariants.{Upper, Jump, JumpRegister, Branch, Load, Store, Immediate, Shift, Register, Fence, FenceI, Cache, LoadReserved, Atomic, System}
use Rattle.isa_table.specs.declared.instruction.UpperOp.{UpperOp}
use Rattle.isa_table.specs.declared.instruction.BranchOp.{BranchOp}
use Rattle.isa_table.specs.declared.instruction.LoadOp.{LoadOp}
use Rattle.isa_table.specs.declared.instruction.StoreOp.{StoreOp}
use Rattle.isa_table.specs.declared.instruction.ImmediateOp.{ImmediateOp}
use Rattle.isa_table.specs.declared.instruction.ShiftOp.{ShiftOp}
use Rattle.isa_table.specs.declared.instruction.RegisterOp.{RegisterOp}
use Rattle.isa_table.specs.declared.instruction.CacheOp.{CacheOp}
use Rattle.isa_table.specs.declared.instruction.AtomicWidth.{AtomicWidth}
use Rattle.isa_table.specs.declared.instruction.AtomicOp.{AtomicOp}
use Rattle.isa_table.specs.declared.instruction.SystemOp.{SystemOp}
use Rattle.isa_table.specs.declared.register.Reg.{Reg}
use Rattle.isa_table.specs.Operands.{HasRd, HasRs1, HasRs2, i_immediate, s_immediate, b_immediate, j_immediate, shift_bits, flag, set_bits}
use Rattle.isa_table.specs.Table.{Spells, upper_opcode, branch_funct3, load_funct3, store_funct3, immediate_key, shift_key, register_key, cache_function, width_funct3, atomic_funct5, system_word}
use Rattle.isa_table.proofs.Masks.{masked_7f, masked_707f, masked_fe00707f, masked_f800707f, masked_f9f0707f, masked_fff07fff, masked_ffffffff}
use Rattle.isa_table.proofs.Mnemonics.{upper_opcodes, immediate_opcodes, immediate_opcode_small, register_opcode_small, shift_opcodes, register_opcodes, shift_funct3s, immediate_unshifted, atomic_stores, register_funct3_small, width_funct3_small, system_opcode}
use Rattle.isa_table.proofs.Shifts.{shift_unmasked}

-- the mask and match value of an instruction's row, as its word's fields
abbrev pub HasParts : ℕ → Instr → Type 0
HasParts w (Upper op rd immediate) = field w 0 7 ≡ upper_opcode op
HasParts w (Jump rd distance) = field w 0 7 ≡ 0x6f
HasParts w (JumpRegister rd rs1 offset) = (field w 0 7 ≡ 0x67) × (field w 12 3 ≡ 0)
HasParts w (Branch op rs1 rs2 distance) = (field w 0 7 ≡ 0x63) × (field w 12 3 ≡ branch_funct3 op)
HasParts w (Load op rd rs1 offset) = (field w 0 7 ≡ 0x03) × (field w 12 3 ≡ load_funct3 op)
HasParts w (Store op rs2 rs1 offset) = (field w 0 7 ≡ 0x23) × (field w 12 3 ≡ store_funct3 op)
HasParts w (Immediate op rd rs1 immediate) =
    (field w 0 7 ≡ (immediate_key op).opcode) × (field w 12 3 ≡ (immediate_key op).funct3)
HasParts w (Shift op rd rs1 amount) =
    (field w 0 7 ≡ (shift_key op).opcode) × (field w 12 3 ≡ (shift_key op).funct3) × (field w 26 6 ≡ (shift_key op).top)
    × (field w 20 6 < 2 ^ shift_bits op)
HasParts w (Register op rd rs1 rs2) =
    (field w 0 7 ≡ (register_key op).opcode) × (field w 12 3 ≡ (register_key op).funct3) × (field w 25 7 ≡ (register_key op).top)
HasParts w (Fence predecessor successor) = (field w 0 7 ≡ 0x0f) × (field w 12 3 ≡ 0)
HasParts w FenceI = (field w 0 7 ≡ 0x0f) × (field w 12 3 ≡ 1)
HasParts w (Cache op rs1) =
    (field w 0 7 ≡ 0x0f) × (field w 12 3 ≡ 2) × (field w 7 5 ≡ 0) × (field w 20 12 ≡ cache_function op)
HasParts w (LoadReserved width rd rs1 acquire release) =
    (field w 0 7 ≡ 0x2f) × (field w 12 3 ≡ width_funct3 width) × (field w 27 5 ≡ 0x02) × (field w 20 5 ≡ 0)
HasParts w (Atomic op width rd rs1 rs2 acquire release) =
    (field w 0 7 ≡ 0x2f) × (field w 12 3 ≡ width_funct3 width) × (field w 27 5 ≡ atomic_funct5 op)
HasParts w (System op) = w ≡ system_word op

pub parts : (w : ℕ) → w < 2 ^ 32 → (i : Instr) → Spells w i → HasParts w i
parts w h (Upper op rd immediate) s = omega (arith, masked_7f w, s.row)
parts w h (Jump rd distance) s = omega (arith, masked_7f w, s.row)
parts w h (JumpRegister rd rs1 offset) s = (
  omega (arith, masked_707f w, s.row),
  omega (arith, masked_707f w, s.row),
)
parts w h (Branch op rs1 rs2 distance) s = (
  omega (arith, masked_707f w, s.row),
  omega (arith, masked_707f w, s.row),
)
parts w h (Load op rd rs1 offset) s = (
  omega (arith, masked_707f w, s.row),
  omega (arith, masked_707f w, s.row),
)
parts w h (Store op rs2 rs1 offset) s = (
  omega (arith, masked_707f w, s.row),
  omega (arith, masked_707f w, s.row),
)
parts w h (Immediate op rd rs1 immediate) s = (
  omega (arith, masked_707f w, immediate_opcode_small op, s.row),
  omega (arith, masked_707f w, immediate_opcode_small op, s.row),
)
parts w h (Shift op rd rs1 amount) s = shift_unmasked op w s.row
parts w h (Register op rd rs1 rs2) s = (
  omega (arith, masked_fe00707f w, register_opcode_small op, register_funct3_small op, s.row),
  omega (arith, masked_fe00707f w, register_opcode_small op, register_funct3_small op, s.row),
  omega (arith, masked_fe00707f w, register_opcode_small op, register_funct3_small op, s.row),
)
parts w h (Fence predecessor successor) s = (
  omega (arith, masked_707f w, s.row),
  omega (arith, masked_707f w, s.row),
)
parts w h FenceI s = (
  omega (arith, masked_707f w, s.row),
  omega (arith, masked_707f w, s.row),
)
parts w h (Cache op rs1) s = (
  omega (arith, masked_fff07fff w, s.row),
  omega (arith, masked_fff07fff w, s.row),
  omega (arith, masked_fff07fff w, s.row),
  omega (arith, masked_fff07fff w, s.row),
)
parts w h (LoadReserved width rd rs1 acquire release) s = (
  omega (arith, masked_f9f0707f w, width_funct3_small width, s.row),
  omega (arith, masked_f9f0707f w, width_funct3_small width, s.row),
  omega (arith, masked_f9f0707f w, width_funct3_small width, s.row),
  omega (arith, masked_f9f0707f w, width_funct3_small width, s.row),
)
parts w h (Atomic op width rd rs1 rs2 acquire release) s = (
  omega (arith, masked_f800707f w, width_funct3_small width, s.row),
  omega (arith, masked_f800707f w, width_funct3_small width, s.row),
  omega (arith, masked_f800707f w, width_funct3_small width, s.row),
)
parts w h (System op) s = omega (arith, masked_ffffffff w h, s.row)

-- the opcodes of an instruction's shape
abbrev pub IsOpcode : Instr → ℕ → Type 0
IsOpcode (Upper op rd immediate) o = (o ≡ 0x37) ⊎ (o ≡ 0x17)
IsOpcode (Jump rd distance) o = o ≡ 0x6f
IsOpcode (JumpRegister rd rs1 offset) o = o ≡ 0x67
IsOpcode (Branch op rs1 rs2 distance) o = o ≡ 0x63
IsOpcode (Load op rd rs1 offset) o = o ≡ 0x03
IsOpcode (Store op rs2 rs1 offset) o = o ≡ 0x23
IsOpcode (Immediate op rd rs1 immediate) o = (o ≡ 0x13) ⊎ (o ≡ 0x1b)
IsOpcode (Shift op rd rs1 amount) o = (o ≡ 0x13) ⊎ (o ≡ 0x1b)
IsOpcode (Register op rd rs1 rs2) o = (o ≡ 0x33) ⊎ (o ≡ 0x3b)
IsOpcode (Fence predecessor successor) o = o ≡ 0x0f
IsOpcode FenceI o = o ≡ 0x0f
IsOpcode (Cache op rs1) o = o ≡ 0x0f
IsOpcode (LoadReserved width rd rs1 acquire release) o = o ≡ 0x2f
IsOpcode (Atomic op width rd rs1 rs2 acquire release) o = o ≡ 0x2f
IsOpcode (System op) o = o ≡ 0x73

pub opcode_is : (w : ℕ) → w < 2 ^ 32 → (i : Instr) → Spells w i → IsOpcode i (field w 0 7)
opcode_is w h (Upper op rd immediate) s = rw (parts w h (Upper op rd immediate) s) (upper_opcodes op)
opcode_is w h (Jump rd distance) s = parts w h (Jump rd distance) s
opcode_is w h (JumpRegister rd rs1 offset) s = (parts w h (JumpRegister rd rs1 offset) s).0
opcode_is w h (Branch op rs1 rs2 distance) s = (parts w h (Branch op rs1 rs2 distance) s).0
opcode_is w h (Load op rd rs1 offset) s = (parts w h (Load op rd rs1 offset) s).0
opcode_is w h (Store op rs2 rs1 offset) s = (parts w h (Store op rs2 rs1 offset) s).0
opcode_is w h (Immediate op rd rs1 immediate) s = rw ((parts w h (Immediate op rd rs1 immediate) s).0) (immediate_opcodes op)
opcode_is w h (Shift op rd rs1 amount) s = rw ((parts w h (Shift op rd rs1 amount) s).0) (shift_opcodes op)
opcode_is w h (Register op rd rs1 rs2) s = rw ((parts w h (Register op rd rs1 rs2) s).0) (register_opcodes op)
opcode_is w h (Fence predecessor successor) s = (parts w h (Fence predecessor successor) s).0
opcode_is w h FenceI s = (parts w h FenceI s).0
opcode_is w h (Cache op rs1) s = (parts w h (Cache op rs1) s).0
opcode_is w h (LoadReserved width rd rs1 acquire release) s = (parts w h (LoadReserved width rd rs1 acquire release) s).0
opcode_is w h (Atomic op width rd rs1 rs2 acquire release) s = (parts w h (Atomic op width rd rs1 rs2 acquire release) s).0
opcode_is w h (System op) s = omega (arith, system_opcode op, parts w h (System op) s)

pub upper_only : (w : ℕ) → w < 2 ^ 32 → ((field w 0 7 ≡ 0x37) ⊎ (field w 0 7 ≡ 0x17)) → (i : Instr) → Spells w i
    → (op : UpperOp) × (rd : Reg) × (i ≡ Upper op rd (field w 12 20)) × (field w 0 7 ≡ upper_opcode op) × HasRd w rd
upper_only w h e (Upper op rd immediate) s =
    let p : HasParts w (Upper op rd immediate) = parts w h (Upper op rd immediate) s in
    (op, rd, cc (s.operands.1), p, s.operands.0)
upper_only w h e i s = absurd (grind (arith, e, opcode_is w h i s))

-- the opcode of either mnemonic is one of the two
pub upper_is : (w : ℕ) (op : UpperOp) → field w 0 7 ≡ upper_opcode op → (field w 0 7 ≡ 0x37) ⊎ (field w 0 7 ≡ 0x17)
upper_is w op e = rw e (upper_opcodes op)

pub jump_only : (w : ℕ) → w < 2 ^ 32 → field w 0 7 ≡ 0x6f → (i : Instr) → Spells w i
    → (rd : Reg) × (i ≡ Jump rd (j_immediate w)) × HasRd w rd
jump_only w h e (Jump rd distance) s =
    let p : HasParts w (Jump rd distance) = parts w h (Jump rd distance) s in
    (rd, cc (s.operands.1), s.operands.0)
jump_only w h e i s = absurd (grind (arith, e, opcode_is w h i s))

pub jump_register_only : (w : ℕ) → w < 2 ^ 32 → field w 0 7 ≡ 0x67 → (i : Instr) → Spells w i
    → (rd : Reg) × (rs1 : Reg) × (i ≡ JumpRegister rd rs1 (i_immediate w)) × (field w 12 3 ≡ 0) × HasRd w rd × HasRs1 w rs1
jump_register_only w h e (JumpRegister rd rs1 offset) s =
    let p : HasParts w (JumpRegister rd rs1 offset) = parts w h (JumpRegister rd rs1 offset) s in
    (rd, rs1, cc (s.operands.2), p.1, s.operands.0, s.operands.1)
jump_register_only w h e i s = absurd (grind (arith, e, opcode_is w h i s))

pub branch_only : (w : ℕ) → w < 2 ^ 32 → field w 0 7 ≡ 0x63 → (i : Instr) → Spells w i
    → (op : BranchOp) × (rs1 : Reg) × (rs2 : Reg) × (i ≡ Branch op rs1 rs2 (b_immediate w)) × (field w 12 3 ≡ branch_funct3 op) × HasRs1 w rs1 × HasRs2 w rs2
branch_only w h e (Branch op rs1 rs2 distance) s =
    let p : HasParts w (Branch op rs1 rs2 distance) = parts w h (Branch op rs1 rs2 distance) s in
    (op, rs1, rs2, cc (s.operands.2), p.1, s.operands.0, s.operands.1)
branch_only w h e i s = absurd (grind (arith, e, opcode_is w h i s))

pub load_only : (w : ℕ) → w < 2 ^ 32 → field w 0 7 ≡ 0x03 → (i : Instr) → Spells w i
    → (op : LoadOp) × (rd : Reg) × (rs1 : Reg) × (i ≡ Load op rd rs1 (i_immediate w)) × (field w 12 3 ≡ load_funct3 op) × HasRd w rd × HasRs1 w rs1
load_only w h e (Load op rd rs1 offset) s =
    let p : HasParts w (Load op rd rs1 offset) = parts w h (Load op rd rs1 offset) s in
    (op, rd, rs1, cc (s.operands.2), p.1, s.operands.0, s.operands.1)
load_only w h e i s = absurd (grind (arith, e, opcode_is w h i s))

pub store_only : (w : ℕ) → w < 2 ^ 32 → field w 0 7 ≡ 0x23 → (i : Instr) → Spells w i
    → (op : StoreOp) × (rs2 : Reg) × (rs1 : Reg) × (i ≡ Store op rs2 rs1 (s_immediate w)) × (field w 12 3 ≡ store_funct3 op) × HasRs2 w rs2 × HasRs1 w rs1
store_only w h e (Store op rs2 rs1 offset) s =
    let p : HasParts w (Store op rs2 rs1 offset) = parts w h (Store op rs2 rs1 offset) s in
    (op, rs2, rs1, cc (s.operands.2), p.1, s.operands.0, s.operands.1)
store_only w h e i s = absurd (grind (arith, e, opcode_is w h i s))

pub immediate_only : (w : ℕ) → w < 2 ^ 32 → ((field w 0 7 ≡ 0x13) ⊎ (field w 0 7 ≡ 0x1b)) → ((field w 12 3 ≡ 1) ⊎ (field w 12 3 ≡ 5) → ⊥) → (i : Instr) → Spells w i
    → (op : ImmediateOp) × (rd : Reg) × (rs1 : Reg) × (i ≡ Immediate op rd rs1 (i_immediate w)) × (field w 0 7 ≡ (immediate_key op).opcode) × (field w 12 3 ≡ (immediate_key op).funct3) × HasRd w rd × HasRs1 w rs1
immediate_only w h e f (Immediate op rd rs1 immediate) s =
    let p : HasParts w (Immediate op rd rs1 immediate) = parts w h (Immediate op rd rs1 immediate) s in
    (op, rd, rs1, cc (s.operands.2), p.0, p.1, s.operands.0, s.operands.1)
immediate_only w h e f (Shift op rd rs1 amount) s = absurd (f (rw ((parts w h (Shift op rd rs1 amount) s).1) (shift_funct3s op)))
immediate_only w h e f i s = absurd (grind (arith, e, opcode_is w h i s))

pub shift_only : (w : ℕ) → w < 2 ^ 32 → ((field w 0 7 ≡ 0x13) ⊎ (field w 0 7 ≡ 0x1b)) → ((field w 12 3 ≡ 1) ⊎ (field w 12 3 ≡ 5)) → (i : Instr) → Spells w i
    → (op : ShiftOp) × (rd : Reg) × (rs1 : Reg) × (i ≡ Shift op rd rs1 (field w 20 (shift_bits op))) × (field w 0 7 ≡ (shift_key op).opcode) × (field w 12 3 ≡ (shift_key op).funct3) × (field w 26 6 ≡ (shift_key op).top) × (field w 20 6 < 2 ^ shift_bits op) × HasRd w rd × HasRs1 w rs1
shift_only w h e f (Shift op rd rs1 amount) s =
    let p : HasParts w (Shift op rd rs1 amount) = parts w h (Shift op rd rs1 amount) s in
    (op, rd, rs1, cc (s.operands.2), p.0, p.1, p.2, p.3, s.operands.0, s.operands.1)
shift_only w h e f (Immediate op rd rs1 immediate) s = absurd (immediate_unshifted op (rw ((parts w h (Immediate op rd rs1 immediate) s).1) at f))
shift_only w h e f i s = absurd (grind (arith, e, opcode_is w h i s))

pub register_only : (w : ℕ) → w < 2 ^ 32 → ((field w 0 7 ≡ 0x33) ⊎ (field w 0 7 ≡ 0x3b)) → (i : Instr) → Spells w i
    → (op : RegisterOp) × (rd : Reg) × (rs1 : Reg) × (rs2 : Reg) × (i ≡ Register op rd rs1 rs2) × (field w 0 7 ≡ (register_key op).opcode) × (field w 12 3 ≡ (register_key op).funct3) × (field w 25 7 ≡ (register_key op).top) × HasRd w rd × HasRs1 w rs1 × HasRs2 w rs2
register_only w h e (Register op rd rs1 rs2) s =
    let p : HasParts w (Register op rd rs1 rs2) = parts w h (Register op rd rs1 rs2) s in
    (op, rd, rs1, rs2, refl, p.0, p.1, p.2, s.operands.0, s.operands.1, s.operands.2)
register_only w h e i s = absurd (grind (arith, e, opcode_is w h i s))

pub fence_only : (w : ℕ) → w < 2 ^ 32 → field w 0 7 ≡ 0x0f → field w 12 3 ≡ 0 → (i : Instr) → Spells w i
    → (predecessor : AccessSet) × (successor : AccessSet) × (i ≡ Fence predecessor successor) × (set_bits predecessor ≡ field w 24 4) × (set_bits successor ≡ field w 20 4)
fence_only w h e f (Fence predecessor successor) s =
    (predecessor, successor, refl, s.operands.0, s.operands.1)
fence_only w h e f FenceI s = absurd (grind (arith, f, parts w h FenceI s))
fence_only w h e f (Cache op rs1) s = absurd (grind (arith, f, parts w h (Cache op rs1) s))
fence_only w h e f i s = absurd (grind (arith, e, opcode_is w h i s))

pub fence_i_only : (w : ℕ) → w < 2 ^ 32 → field w 0 7 ≡ 0x0f → field w 12 3 ≡ 1 → (i : Instr) → Spells w i → i ≡ FenceI
fence_i_only w h e f FenceI s = refl
fence_i_only w h e f (Fence predecessor successor) s = absurd (grind (arith, f, parts w h (Fence predecessor successor) s))
fence_i_only w h e f (Cache op rs1) s = absurd (grind (arith, f, parts w h (Cache op rs1) s))
fence_i_only w h e f i s = absurd (grind (arith, e, opcode_is w h i s))

pub cache_only : (w : ℕ) → w < 2 ^ 32 → field w 0 7 ≡ 0x0f → field w 12 3 ≡ 2 → (i : Instr) → Spells w i
    → (op : CacheOp) × (rs1 : Reg) × (i ≡ Cache op rs1) × (field w 7 5 ≡ 0) × (field w 20 12 ≡ cache_function op) × HasRs1 w rs1
cache_only w h e f (Cache op rs1) s =
    let p : HasParts w (Cache op rs1) = parts w h (Cache op rs1) s in
    (op, rs1, refl, p.2, p.3, s.operands)
cache_only w h e f (Fence predecessor successor) s = absurd (grind (arith, f, parts w h (Fence predecessor successor) s))
cache_only w h e f FenceI s = absurd (grind (arith, f, parts w h FenceI s))
cache_only w h e f i s = absurd (grind (arith, e, opcode_is w h i s))

-- the opcode 0001111 has no other funct3
pub barrier_funct3 : (w : ℕ) → w < 2 ^ 32 → field w 0 7 ≡ 0x0f → (i : Instr) → Spells w i
    → (field w 12 3 ≡ 0) ⊎ (field w 12 3 ≡ 1) ⊎ (field w 12 3 ≡ 2)
barrier_funct3 w h e (Fence predecessor successor) s = grind (arith, parts w h (Fence predecessor successor) s)
barrier_funct3 w h e FenceI s = grind (arith, parts w h FenceI s)
barrier_funct3 w h e (Cache op rs1) s = grind (arith, parts w h (Cache op rs1) s)
barrier_funct3 w h e i s = absurd (grind (arith, e, opcode_is w h i s))

pub load_reserved_only : (w : ℕ) → w < 2 ^ 32 → field w 0 7 ≡ 0x2f → field w 27 5 ≡ 0x02 → (i : Instr) → Spells w i
    → (width : AtomicWidth) × (rd : Reg) × (rs1 : Reg) × (acquire : Bool) × (release : Bool) × (i ≡ LoadReserved width rd rs1 acquire release) × (field w 12 3 ≡ width_funct3 width) × (field w 20 5 ≡ 0) × HasRd w rd × HasRs1 w rs1 × (flag acquire ≡ field w 26 1) × (flag release ≡ field w 25 1)
load_reserved_only w h e f (LoadReserved width rd rs1 acquire release) s =
    let p : HasParts w (LoadReserved width rd rs1 acquire release) = parts w h (LoadReserved width rd rs1 acquire release) s in
    (width, rd, rs1, acquire, release, refl, p.1, p.3, s.operands.0, s.operands.1, s.operands.2, s.operands.3)
load_reserved_only w h e f (Atomic op width rd rs1 rs2 acquire release) s = absurd (atomic_stores op (rw ((parts w h (Atomic op width rd rs1 rs2 acquire release) s).2) at f))
load_reserved_only w h e f i s = absurd (grind (arith, e, opcode_is w h i s))

pub atomic_only : (w : ℕ) → w < 2 ^ 32 → field w 0 7 ≡ 0x2f → (field w 27 5 ≡ 0x02 → ⊥) → (i : Instr) → Spells w i
    → (op : AtomicOp) × (width : AtomicWidth) × (rd : Reg) × (rs1 : Reg) × (rs2 : Reg) × (acquire : Bool) × (release : Bool) × (i ≡ Atomic op width rd rs1 rs2 acquire release) × (field w 12 3 ≡ width_funct3 width) × (field w 27 5 ≡ atomic_funct5 op) × HasRd w rd × HasRs1 w rs1 × HasRs2 w rs2 × (flag acquire ≡ field w 26 1) × (flag release ≡ field w 25 1)
atomic_only w h e f (Atomic op width rd rs1 rs2 acquire release) s =
    let p : HasParts w (Atomic op width rd rs1 rs2 acquire release) = parts w h (Atomic op width rd rs1 rs2 acquire release) s in
    (op, width, rd, rs1, rs2, acquire, release, refl, p.1, p.2, s.operands.0, s.operands.1, s.operands.2, s.operands.3, s.operands.4)
atomic_only w h e f (LoadReserved width rd rs1 acquire release) s = absurd (f (parts w h (LoadReserved width rd rs1 acquire release) s).2)
atomic_only w h e f i s = absurd (grind (arith, e, opcode_is w h i s))

pub system_only : (w : ℕ) → w < 2 ^ 32 → field w 0 7 ≡ 0x73 → (i : Instr) → Spells w i
    → (op : SystemOp) × (i ≡ System op) × (w ≡ system_word op)
system_only w h e (System op) s =
    let p : HasParts w (System op) = parts w h (System op) s in
    (op, refl, p)
system_only w h e i s = absurd (grind (arith, e, opcode_is w h i s))

-- the opcodes of the table
abbrev pub IsKnown : ℕ → Type 0
IsKnown o =
    (o ≡ 0x37) ⊎ (o ≡ 0x17) ⊎ (o ≡ 0x6f) ⊎ (o ≡ 0x67) ⊎ (o ≡ 0x63) ⊎ (o ≡ 0x03) ⊎ (o ≡ 0x23) ⊎ (o ≡ 0x13) ⊎ (o ≡ 0x1b) ⊎ (o ≡ 0x33) ⊎ (o ≡ 0x3b) ⊎ (o ≡ 0x0f) ⊎ (o ≡ 0x2f) ⊎ (o ≡ 0x73)

known_of : (o : ℕ) (i : Instr) → IsOpcode i o → IsKnown o
known_of o (Upper op rd immediate) e = grind (arith, e)
known_of o (Jump rd distance) e = grind (arith, e)
known_of o (JumpRegister rd rs1 offset) e = grind (arith, e)
known_of o (Branch op rs1 rs2 distance) e = grind (arith, e)
known_of o (Load op rd rs1 offset) e = grind (arith, e)
known_of o (Store op rs2 rs1 offset) e = grind (arith, e)
known_of o (Immediate op rd rs1 immediate) e = grind (arith, e)
known_of o (Shift op rd rs1 amount) e = grind (arith, e)
known_of o (Register op rd rs1 rs2) e = grind (arith, e)
known_of o (Fence predecessor successor) e = grind (arith, e)
known_of o FenceI e = grind (arith, e)
known_of o (Cache op rs1) e = grind (arith, e)
known_of o (LoadReserved width rd rs1 acquire release) e = grind (arith, e)
known_of o (Atomic op width rd rs1 rs2 acquire release) e = grind (arith, e)
known_of o (System op) e = grind (arith, e)

pub known : (w : ℕ) → w < 2 ^ 32 → (i : Instr) → Spells w i → IsKnown (field w 0 7)
known w h i s = known_of (field w 0 7) i (opcode_is w h i s)
