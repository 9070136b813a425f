-- The fields of a word that give an instruction's operands.
-- Source: RISC-V Unprivileged ISA 20191213, chapter 2 ("Base Instruction Formats", "Immediate Encoding Variants",
-- "Memory Ordering Instructions"), chapters 3 and 5, and chapter 8 (the bits aq and rl); RISC-V Cache Management
-- Operations 1.0.
use Rattle.std.specs.Prelude.{◌≡◌, ℕ, ℤ, ◌+◌, ◌*◌, ◌^◌, Bool, if◌then◌else◌}
use Rattle.word_bits.specs.Numbers.{field, signed}
use Rattle.isa_table.specs.declared.access.AccessSet.{AccessSet}
use Rattle.isa_table.specs.declared.instruction.Instr.{Instr}
use Rattle.isa_table.specs.declared.instruction.Instr.TheVariants.{Upper, Jump, JumpRegister, Branch, Load, Store, Immediate, Shift, Register, Fence, FenceI, Cache, LoadReserved, Atomic, System}
use Rattle.isa_table.specs.declared.instruction.ShiftOp.{ShiftOp}
use Rattle.isa_table.specs.declared.instruction.ShiftOp.TheVariants.{Slli, Srli, Srai, Slliw, Srliw, Sraiw}
use Rattle.isa_table.specs.declared.register.Reg.{Reg}

-- the registers that a word names in the places of rd, rs1 and rs2
abbrev pub HasRd : ℕ → Reg → Type 0
HasRd w rd = rd.number ≡ field w 7 5

abbrev pub HasRs1 : ℕ → Reg → Type 0
HasRs1 w rs1 = rs1.number ≡ field w 15 5

abbrev pub HasRs2 : ℕ → Reg → Type 0
HasRs2 w rs2 = rs2.number ≡ field w 20 5

-- I-type: the immediate in bits 31 to 20
abbrev pub i_immediate : ℕ → ℤ
i_immediate word = signed (field word 20 12) 12

-- S-type: imm[11:5] in bits 31 to 25 and imm[4:0] in bits 11 to 7
abbrev pub s_immediate : ℕ → ℤ
s_immediate word = signed (field word 7 5 + 2 ^ 5 * field word 25 7) 12

-- B-type: imm[12|10:5] in bits 31 to 25 and imm[4:1|11] in bits 11 to 7; imm[0] is zero
abbrev pub b_immediate : ℕ → ℤ
b_immediate word =
    signed (2 * field word 8 4 + 2 ^ 5 * field word 25 6 + 2 ^ 11 * field word 7 1 + 2 ^ 12 * field word 31 1) 13

-- J-type: imm[20|10:1|11|19:12] in bits 31 to 12; imm[0] is zero
abbrev pub j_immediate : ℕ → ℤ
j_immediate word =
    signed (2 * field word 21 10 + 2 ^ 11 * field word 20 1 + 2 ^ 12 * field word 12 8 + 2 ^ 20 * field word 31 1) 21

-- how many bits of a word give the amount of a shift: of doublewords six, of words five
abbrev pub shift_bits : ShiftOp → ℕ
shift_bits Slli = 6
shift_bits Srli = 6
shift_bits Srai = 6
shift_bits Slliw = 5
shift_bits Srliw = 5
shift_bits Sraiw = 5

-- one bit
abbrev pub flag : Bool → ℕ
flag b = if b then 1 else 0

-- the four bits of a fence's set: device input, device output, memory reads, memory writes, from the high bit
abbrev pub set_bits : AccessSet → ℕ
set_bits set =
    2 ^ 3 * flag set.device_input
    + 2 ^ 2 * flag set.device_output
    + 2 * flag set.memory_reads
    + flag set.memory_writes

-- the fields of word w give the operands of the instruction
abbrev pub HasOperands : ℕ → Instr → Type 0
HasOperands w (Upper op rd immediate) = HasRd w rd × (immediate ≡ field w 12 20)
HasOperands w (Jump rd distance) = HasRd w rd × (distance ≡ j_immediate w)
HasOperands w (JumpRegister rd rs1 offset) = HasRd w rd × HasRs1 w rs1 × (offset ≡ i_immediate w)
HasOperands w (Branch op rs1 rs2 distance) = HasRs1 w rs1 × HasRs2 w rs2 × (distance ≡ b_immediate w)
HasOperands w (Load op rd rs1 offset) = HasRd w rd × HasRs1 w rs1 × (offset ≡ i_immediate w)
HasOperands w (Store op rs2 rs1 offset) = HasRs2 w rs2 × HasRs1 w rs1 × (offset ≡ s_immediate w)
HasOperands w (Immediate op rd rs1 immediate) = HasRd w rd × HasRs1 w rs1 × (immediate ≡ i_immediate w)
HasOperands w (Shift op rd rs1 amount) = HasRd w rd × HasRs1 w rs1 × (amount ≡ field w 20 (shift_bits op))
HasOperands w (Register op rd rs1 rs2) = HasRd w rd × HasRs1 w rs1 × HasRs2 w rs2
HasOperands w (Fence predecessor successor) =
    (set_bits predecessor ≡ field w 24 4) × (set_bits successor ≡ field w 20 4)
HasOperands w FenceI = Unit {0}
HasOperands w (Cache op rs1) = HasRs1 w rs1
HasOperands w (LoadReserved width rd rs1 acquire release) =
    HasRd w rd × HasRs1 w rs1 × (flag acquire ≡ field w 26 1) × (flag release ≡ field w 25 1)
HasOperands w (Atomic op width rd rs1 rs2 acquire release) =
    HasRd w rd × HasRs1 w rs1 × HasRs2 w rs2 × (flag acquire ≡ field w 26 1) × (flag release ≡ field w 25 1)
HasOperands w (System op) = Unit {0}

-- the fields of word w that decoding ignores are zero: rd, rs1 and fm of a FENCE, all but opcode and funct3 of a FENCE.I
abbrev pub HasZeros : ℕ → Instr → Type 0
HasZeros w (Fence predecessor successor) = (field w 7 5 ≡ 0) × (field w 15 5 ≡ 0) × (field w 28 4 ≡ 0)
HasZeros w FenceI = (field w 7 5 ≡ 0) × (field w 15 17 ≡ 0)
HasZeros w i = Unit {0}
