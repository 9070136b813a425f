-- The text of an instruction.
-- Source: RISC-V Unprivileged ISA 20191213, chapter 25 ("RISC-V Assembly Programmer's Handbook"); RISC-V Cache Management
-- Operations 1.0 for the `cbo` instructions. Registers are written by their numbers and offsets always.
use Rattle.std.specs.Prelude.{ℕ, ◌+◌, ℤ, pos, negsuc, Bool, true, false, List, [], ◌∷◌, ◌++◌, codes, decimal}
use Rattle.std.specs.Fmt.{signed_decimal}
use Rattle.isa_table.specs.Names.{mnemonic}
use Rattle.isa_table.specs.declared.access.AccessSet.{AccessSet}
use Rattle.isa_table.specs.declared.register.Reg.{Reg}
use Rattle.isa_table.specs.declared.instruction.Instr.{Instr}
use Rattle.isa_table.specs.declared.instruction.Instr.TheVariants.{Upper, Jump, JumpRegister, Branch, Load, Store, Immediate, Shift, Register, Fence, FenceI, Cache, LoadReserved, Atomic, System}

-- `xN`
abbrev pub register_text : Reg → List ℕ
register_text reg = codes "x" ++ decimal reg.number

-- `(xN)`
abbrev pub address_text : Reg → List ℕ
address_text base = codes "(" ++ (register_text base ++ codes ")")

-- `N(xN)`
abbrev pub place_text : ℤ → Reg → List ℕ
place_text offset base = signed_decimal offset ++ address_text base

-- `.+N` or `.-N`, counted from the instruction's own place
abbrev pub distance_text : ℤ → List ℕ
distance_text (pos n) = codes ".+" ++ decimal n
distance_text (negsuc n) = codes ".-" ++ decimal (n + 1)

-- a text, where it is there
abbrev pub text_if : List ℕ → Bool → List ℕ
text_if text true = text
text_if text false = []

-- the letters of a set's accesses: `i`, `o`, `r` and `w` in that order
abbrev pub letters : AccessSet → List ℕ
letters set = text_if (codes "i") set.device_input ++ (text_if (codes "o") set.device_output
    ++ (text_if (codes "r") set.memory_reads ++ text_if (codes "w") set.memory_writes))

-- a set: its letters, and `0`, which is 48, for none
abbrev pub or_zero : List ℕ → List ℕ
or_zero [] = 48 ∷ []
or_zero (b ∷ bs) = b ∷ bs

abbrev pub set_text : AccessSet → List ℕ
set_text set = or_zero (letters set)

-- the operands of an instruction, in their order
abbrev pub operand_texts : Instr → List (List ℕ)
operand_texts (Upper op rd immediate) = register_text rd ∷ decimal immediate ∷ []
operand_texts (Jump rd distance) = register_text rd ∷ distance_text distance ∷ []
operand_texts (JumpRegister rd rs1 offset) = register_text rd ∷ place_text offset rs1 ∷ []
operand_texts (Branch op rs1 rs2 distance) = register_text rs1 ∷ register_text rs2 ∷ distance_text distance ∷ []
operand_texts (Load op rd rs1 offset) = register_text rd ∷ place_text offset rs1 ∷ []
operand_texts (Store op rs2 rs1 offset) = register_text rs2 ∷ place_text offset rs1 ∷ []
operand_texts (Immediate op rd rs1 immediate) = register_text rd ∷ register_text rs1 ∷ signed_decimal immediate ∷ []
operand_texts (Shift op rd rs1 amount) = register_text rd ∷ register_text rs1 ∷ decimal amount ∷ []
operand_texts (Register op rd rs1 rs2) = register_text rd ∷ register_text rs1 ∷ register_text rs2 ∷ []
operand_texts (Fence predecessor successor) = set_text predecessor ∷ set_text successor ∷ []
operand_texts FenceI = []
operand_texts (Cache op rs1) = address_text rs1 ∷ []
operand_texts (LoadReserved width rd rs1 acquire release) = register_text rd ∷ address_text rs1 ∷ []
operand_texts (Atomic op width rd rs1 rs2 acquire release) = register_text rd ∷ register_text rs2 ∷ address_text rs1 ∷ []
operand_texts (System op) = []

-- texts with a comma and a space between them
abbrev pub listed : List (List ℕ) → List ℕ
listed [] = []
listed (text ∷ []) = text
listed (text ∷ texts) = text ++ (codes ", " ++ listed texts)

-- operands after a space
abbrev pub operands_text : List (List ℕ) → List ℕ
operands_text [] = []
operands_text texts = codes " " ++ listed texts

-- the mnemonic, one space, and the operands
abbrev pub text_of : Instr → List ℕ
text_of i = mnemonic i ++ operands_text (operand_texts i)
