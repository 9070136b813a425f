-- No word spells two instructions.
use Rattle.std.proofs.Common.{◌≡◌, ℕ, ◌+◌, ◌*◌, ◌^◌, ◌<◌, Bool, true, false, sym, ◌∙◌, ap, refl, arith}
use mathlib.Core.HLevel.{Σ_prop_path}
use native.Mathlib.Bridge.{le_prop}
use Rattle.isa_table.specs.declared.access.AccessSet.{AccessSet}
use Rattle.isa_table.specs.declared.instruction.Instr.{Instr}
use Rattle.isa_table.specs.declared.instruction.Instr.TheVariants.{Upper, Jump, JumpRegister, Branch, Load, Store, Immediate, Shift, Register, Fence, FenceI, Cache, LoadReserved, Atomic, System}
use Rattle.isa_table.specs.declared.register.Reg.{Reg}
use Rattle.isa_table.specs.Operands.{flag, set_bits}
use Rattle.isa_table.specs.Table.{Spells}
use Rattle.isa_table.proofs.Mnemonics.{upper_op_same, branch_op_same, load_op_same, store_op_same, immediate_op_same, shift_op_same, register_op_same, cache_op_same, width_same, atomic_op_same, system_op_same, immediate_unshifted, atomic_stores, shift_funct3s, system_opcode}
use Rattle.isa_table.proofs.Shapes.{HasParts, parts, opcode_is, upper_only, jump_only, jump_register_only, branch_only, load_only, store_only, immediate_only, shift_only, register_only, fence_only, fence_i_only, cache_only, load_reserved_only, atomic_only, system_only}

abbrev made : (p : (n : ℕ) × (n < 32)) → Reg
made p = record { number = p.0; in_range = p.1 }

-- a register is its number
pub register_same : (r s : Reg) → r.number ≡ s.number → r ≡ s
register_same r s e =
    let p : (n : ℕ) × (n < 32) = (r.number, r.in_range) in
    let q : (n : ℕ) × (n < 32) = (s.number, s.in_range) in
    let h : p ≡ q = Σ_prop_path (λ (n : ℕ). le_prop) e in
    ap made h

flag_same : (a b : Bool) → flag a ≡ flag b → a ≡ b
flag_same true true e = refl
flag_same false false e = refl
flag_same a b e = absurd (omega arith)

flag_small : (a : Bool) → flag a < 2
flag_small true = omega arith
flag_small false = omega arith

bits_same : (a b c d a' b' c' d' : ℕ) → a < 2 → b < 2 → c < 2 → d < 2 → a' < 2 → b' < 2 → c' < 2 → d' < 2
    → 2 ^ 3 * a + 2 ^ 2 * b + 2 * c + d ≡ 2 ^ 3 * a' + 2 ^ 2 * b' + 2 * c' + d'
    → (a ≡ a') × (b ≡ b') × (c ≡ c') × (d ≡ d')
bits_same a b c d a' b' c' d' ha hb hc hd ha' hb' hc' hd' e = (omega arith, omega arith, omega arith, omega arith)

abbrev set_of : Bool → Bool → Bool → Bool → AccessSet
set_of i o r w = record { device_input = i; device_output = o; memory_reads = r; memory_writes = w }

-- a set is its four bits
pub set_same : (s t : AccessSet) → set_bits s ≡ set_bits t → s ≡ t
set_same s t e =
    let p : (flag s.device_input ≡ flag t.device_input) × (flag s.device_output ≡ flag t.device_output)
    × (flag s.memory_reads ≡ flag t.memory_reads) × (flag s.memory_writes ≡ flag t.memory_writes)
    = bits_same _ _ _ _ _ _ _ _ (flag_small s.device_input) (flag_small s.device_output) (flag_small s.memory_reads)
    (flag_small s.memory_writes) (flag_small t.device_input) (flag_small t.device_output) (flag_small t.memory_reads)
    (flag_small t.memory_writes) e in
    let i : s.device_input ≡ t.device_input = flag_same _ _ p.0 in
    let o : s.device_output ≡ t.device_output = flag_same _ _ p.1 in
    let r : s.memory_reads ≡ t.memory_reads = flag_same _ _ p.2 in
    let w : s.memory_writes ≡ t.memory_writes = flag_same _ _ p.3 in
    let f : set_of s.device_input s.device_output s.memory_reads s.memory_writes
    ≡ set_of t.device_input t.device_output t.memory_reads t.memory_writes = cc in
    f

pub unique : (w : ℕ) → w < 2 ^ 32 → (i j : Instr) → Spells w i → Spells w j → i ≡ j
unique w h (Upper op rd immediate) j s t =
    let p : HasParts w (Upper op rd immediate) = parts w h (Upper op rd immediate) s in
    let q = upper_only w h (opcode_is w h (Upper op rd immediate) s) j t in
    let o : op ≡ q.0 = upper_op_same _ _ (sym p ∙ q.3) in
    let d : rd ≡ q.1 = register_same _ _ (s.operands.0 ∙ sym q.4) in
    cc (s.operands.1, q.2)
unique w h (Jump rd distance) j s t =
    let p : HasParts w (Jump rd distance) = parts w h (Jump rd distance) s in
    let q = jump_only w h p j t in
    let d : rd ≡ q.0 = register_same _ _ (s.operands.0 ∙ sym q.2) in
    cc (s.operands.1, q.1)
unique w h (JumpRegister rd rs1 offset) j s t =
    let p : HasParts w (JumpRegister rd rs1 offset) = parts w h (JumpRegister rd rs1 offset) s in
    let q = jump_register_only w h p.0 j t in
    let d : rd ≡ q.0 = register_same _ _ (s.operands.0 ∙ sym q.4) in
    let r1 : rs1 ≡ q.1 = register_same _ _ (s.operands.1 ∙ sym q.5) in
    cc (s.operands.2, q.2)
unique w h (Branch op rs1 rs2 distance) j s t =
    let p : HasParts w (Branch op rs1 rs2 distance) = parts w h (Branch op rs1 rs2 distance) s in
    let q = branch_only w h p.0 j t in
    let o : op ≡ q.0 = branch_op_same _ _ (sym p.1 ∙ q.4) in
    let r1 : rs1 ≡ q.1 = register_same _ _ (s.operands.0 ∙ sym q.5) in
    let r2 : rs2 ≡ q.2 = register_same _ _ (s.operands.1 ∙ sym q.6) in
    cc (s.operands.2, q.3)
unique w h (Load op rd rs1 offset) j s t =
    let p : HasParts w (Load op rd rs1 offset) = parts w h (Load op rd rs1 offset) s in
    let q = load_only w h p.0 j t in
    let o : op ≡ q.0 = load_op_same _ _ (sym p.1 ∙ q.4) in
    let d : rd ≡ q.1 = register_same _ _ (s.operands.0 ∙ sym q.5) in
    let r1 : rs1 ≡ q.2 = register_same _ _ (s.operands.1 ∙ sym q.6) in
    cc (s.operands.2, q.3)
unique w h (Store op rs2 rs1 offset) j s t =
    let p : HasParts w (Store op rs2 rs1 offset) = parts w h (Store op rs2 rs1 offset) s in
    let q = store_only w h p.0 j t in
    let o : op ≡ q.0 = store_op_same _ _ (sym p.1 ∙ q.4) in
    let r2 : rs2 ≡ q.1 = register_same _ _ (s.operands.0 ∙ sym q.5) in
    let r1 : rs1 ≡ q.2 = register_same _ _ (s.operands.1 ∙ sym q.6) in
    cc (s.operands.2, q.3)
unique w h (Immediate op rd rs1 immediate) j s t =
    let p : HasParts w (Immediate op rd rs1 immediate) = parts w h (Immediate op rd rs1 immediate) s in
    let q = immediate_only w h (opcode_is w h (Immediate op rd rs1 immediate) s) (λ f. immediate_unshifted op (rw p.1 at f)) j t in
    let o : op ≡ q.0 = immediate_op_same _ _ (sym p.0 ∙ q.4) (sym p.1 ∙ q.5) in
    let d : rd ≡ q.1 = register_same _ _ (s.operands.0 ∙ sym q.6) in
    let r1 : rs1 ≡ q.2 = register_same _ _ (s.operands.1 ∙ sym q.7) in
    cc (s.operands.2, q.3)
unique w h (Shift op rd rs1 amount) j s t =
    let p : HasParts w (Shift op rd rs1 amount) = parts w h (Shift op rd rs1 amount) s in
    let q = shift_only w h (opcode_is w h (Shift op rd rs1 amount) s) (rw p.1 (shift_funct3s op)) j t in
    let o : op ≡ q.0 = shift_op_same _ _ (sym p.0 ∙ q.4) (sym p.1 ∙ q.5) (sym p.2 ∙ q.6) in
    let d : rd ≡ q.1 = register_same _ _ (s.operands.0 ∙ sym q.8) in
    let r1 : rs1 ≡ q.2 = register_same _ _ (s.operands.1 ∙ sym q.9) in
    cc (s.operands.2, q.3)
unique w h (Register op rd rs1 rs2) j s t =
    let p : HasParts w (Register op rd rs1 rs2) = parts w h (Register op rd rs1 rs2) s in
    let q = register_only w h (opcode_is w h (Register op rd rs1 rs2) s) j t in
    let o : op ≡ q.0 = register_op_same _ _ (sym p.0 ∙ q.5) (sym p.1 ∙ q.6) (sym p.2 ∙ q.7) in
    let d : rd ≡ q.1 = register_same _ _ (s.operands.0 ∙ sym q.8) in
    let r1 : rs1 ≡ q.2 = register_same _ _ (s.operands.1 ∙ sym q.9) in
    let r2 : rs2 ≡ q.3 = register_same _ _ (s.operands.2 ∙ sym q.10) in
    cc (q.4)
unique w h (Fence predecessor successor) j s t =
    let p : HasParts w (Fence predecessor successor) = parts w h (Fence predecessor successor) s in
    let q = fence_only w h p.0 p.1 j t in
    let a : predecessor ≡ q.0 = set_same _ _ (s.operands.0 ∙ sym q.3) in
    let b : successor ≡ q.1 = set_same _ _ (s.operands.1 ∙ sym q.4) in
    cc (q.2)
unique w h FenceI j s t =
    let p : HasParts w FenceI = parts w h FenceI s in
    sym (fence_i_only w h p.0 p.1 j t)
unique w h (Cache op rs1) j s t =
    let p : HasParts w (Cache op rs1) = parts w h (Cache op rs1) s in
    let q = cache_only w h p.0 p.1 j t in
    let o : op ≡ q.0 = cache_op_same _ _ (sym p.3 ∙ q.4) in
    let r1 : rs1 ≡ q.1 = register_same _ _ (s.operands ∙ sym q.5) in
    cc (q.2)
unique w h (LoadReserved width rd rs1 acquire release) j s t =
    let p : HasParts w (LoadReserved width rd rs1 acquire release) = parts w h (LoadReserved width rd rs1 acquire release) s in
    let q = load_reserved_only w h p.0 p.2 j t in
    let v : width ≡ q.0 = width_same _ _ (sym p.1 ∙ q.6) in
    let d : rd ≡ q.1 = register_same _ _ (s.operands.0 ∙ sym q.8) in
    let r1 : rs1 ≡ q.2 = register_same _ _ (s.operands.1 ∙ sym q.9) in
    let af : acquire ≡ q.3 = flag_same _ _ (s.operands.2 ∙ sym q.10) in
    let rf : release ≡ q.4 = flag_same _ _ (s.operands.3 ∙ sym q.11) in
    cc (q.5)
unique w h (Atomic op width rd rs1 rs2 acquire release) j s t =
    let p : HasParts w (Atomic op width rd rs1 rs2 acquire release) = parts w h (Atomic op width rd rs1 rs2 acquire release) s in
    let q = atomic_only w h p.0 (λ f. atomic_stores op (sym p.2 ∙ f)) j t in
    let o : op ≡ q.0 = atomic_op_same _ _ (sym p.2 ∙ q.9) in
    let v : width ≡ q.1 = width_same _ _ (sym p.1 ∙ q.8) in
    let d : rd ≡ q.2 = register_same _ _ (s.operands.0 ∙ sym q.10) in
    let r1 : rs1 ≡ q.3 = register_same _ _ (s.operands.1 ∙ sym q.11) in
    let r2 : rs2 ≡ q.4 = register_same _ _ (s.operands.2 ∙ sym q.12) in
    let af : acquire ≡ q.5 = flag_same _ _ (s.operands.3 ∙ sym q.13) in
    let rf : release ≡ q.6 = flag_same _ _ (s.operands.4 ∙ sym q.14) in
    cc (q.7)
unique w h (System op) j s t =
    let p : HasParts w (System op) = parts w h (System op) s in
    let q = system_only w h (omega (arith, p, system_opcode op)) j t in
    let o : op ≡ q.0 = system_op_same _ _ (sym p ∙ q.2) in
    cc (q.1)
