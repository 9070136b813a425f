-- The grammar of statements: the shapes of each mnemonic's operands, the ranges of its numbers, and what operands of a
-- shape say, or the lowest code of their faults: no shape fits, then a name that is no register, then a number out of range.
-- Source: RISC-V Unprivileged ISA 20191213, chapter 25 ("RISC-V Assembly Programmer's Handbook"); RISC-V Cache Management
-- Operations 1.0.
use Rattle.std.specs.Prelude.{ℕ, ◌*◌, ◌^◌, ◌-◌, List, [], ◌∷◌, Option, Some, None, Result, Ok, Err, ℤ, pos, negsuc, Bool, unsigned_abs, ok_or, option_map, codes, nat_eq, map, slice_index_or, int_le, ◌&&◌, if◌then◌else◌}
use Rattle.std.specs.Option.{option_or}
use Rattle.std.specs.Int.{cast_unsigned, is_power_of_two}
use Rattle.std.specs.Cmp.Lexicographic.{pointwise}
use Rattle.isa_table.specs.Operands.{shift_bits}
use Rattle.isa_table.specs.declared.access.AccessSet.{AccessSet}
use Rattle.isa_table.specs.declared.register.Reg.{Reg}
use Rattle.isa_table.specs.declared.instruction.Instr.{Instr}
use Rattle.isa_table.specs.declared.instruction.Instr.TheVariants as instrs
use Rattle.isa_table.specs.declared.instruction.UpperOp.TheVariants.{Lui}
use Rattle.isa_table.specs.declared.instruction.BranchOp.{BranchOp}
use Rattle.isa_table.specs.declared.instruction.BranchOp.TheVariants.{Beq, Bne, Blt, Bge, Bltu, Bgeu}
use Rattle.isa_table.specs.declared.instruction.ImmediateOp.TheVariants.{Addi, Sltiu, Xori, Addiw}
use Rattle.isa_table.specs.declared.instruction.RegisterOp.TheVariants.{Sub, Subw, Slt, Sltu}
use Rattle.assemble.specs.declared.asm_line.fault.AsmCode.{AsmCode}
use Rattle.asm_lex.specs.declared.asm_names.kinds.NumberWidth.{NumberWidth}
use Rattle.assemble.specs.declared.asm_line.fault.AsmCode.TheVariants as code
use Rattle.asm_lex.specs.declared.asm_names.mnemonic.UnaryOp.{UnaryOp}
use Rattle.asm_lex.specs.declared.asm_names.mnemonic.UnaryOp.TheVariants.{Mv, Not, Neg, Negw, SextW, Seqz, Snez, Sltz, Sgtz}
use Rattle.asm_lex.specs.declared.asm_names.mnemonic.ZeroBranchOp.{ZeroBranchOp}
use Rattle.asm_lex.specs.declared.asm_names.mnemonic.ZeroBranchOp.TheVariants.{Beqz, Bnez, Blez, Bgez, Bltz, Bgtz}
use Rattle.asm_lex.specs.declared.asm_names.mnemonic.ExchangedBranchOp.{ExchangedBranchOp}
use Rattle.asm_lex.specs.declared.asm_names.mnemonic.ExchangedBranchOp.TheVariants.{Bgt, Ble, Bgtu, Bleu}
use Rattle.asm_lex.specs.declared.asm_names.mnemonic.Mnemonic.{Mnemonic}
use Rattle.asm_lex.specs.declared.asm_names.mnemonic.Mnemonic.TheVariants as mnemonics
use Rattle.assemble.specs.declared.asm_line.operands.SignedNumber.{SignedNumber}
use Rattle.assemble.specs.AsmLineFaults.{◌>>=◌}
use Rattle.asm_lex.specs.Kinds.{Lexeme, name, number, comma, opening, closing, plus, minus}
use Rattle.assemble.specs.Meanings.{Meaning, instruction, pair, branch, jump, address, section, numbers, zeros, align, width_bytes, width_of}
use Rattle.assemble.specs.Numbers.{unsigned, negated, number_then, numbers_of, within, exact, branch_reach, jump_reach, reached, upper_half, lower_half}
use Rattle.asm_lex.specs.Registers.{register_of, set_of, zero_register, return_register, all_accesses}

-- a place in a shape: for a register's name, a number with at most one sign, a number that may be missing, numbers between
-- commas, a set of accesses, a label, a label or a distance, or a mark
pub data Slot : Type 0 where
  register_name : Slot
  signed_number : Slot
  offset : Slot
  number_list : Slot
  access_set : Slot
  label_name : Slot
  target : Slot
  comma_mark : Slot
  open_mark : Slot
  close_mark : Slot

-- where a branch or jump goes: to a label, or by a distance from its own place
pub data Target : Type 0 where
  to_label : List ℕ → Target
  by_distance : SignedNumber → Target

-- `(register)`, and `offset(register)`
abbrev pub base_place : List Slot
base_place = open_mark ∷ register_name ∷ close_mark ∷ []

abbrev pub memory_place : List Slot
memory_place = offset ∷ base_place

-- a register, a comma and more

abbrev pub register_then : List Slot → List Slot
register_then slots = register_name ∷ comma_mark ∷ slots

-- the shapes of a statement's operands
abbrev pub shapes_of : Mnemonic → List (List Slot)
shapes_of (mnemonics.Upper op) = register_then (signed_number ∷ []) ∷ []
shapes_of mnemonics.Jump = register_then (target ∷ []) ∷ (target ∷ []) ∷ []
shapes_of mnemonics.JumpRegister = register_then memory_place ∷ (register_name ∷ []) ∷ []
shapes_of (mnemonics.Branch op) = register_then (register_then (target ∷ [])) ∷ []
shapes_of (mnemonics.Load op) = register_then memory_place ∷ []
shapes_of (mnemonics.Store op) = register_then memory_place ∷ []
shapes_of (mnemonics.Immediate op) = register_then (register_then (signed_number ∷ [])) ∷ []
shapes_of (mnemonics.Shift op) = register_then (register_then (signed_number ∷ [])) ∷ []
shapes_of (mnemonics.Register op) = register_then (register_then (register_name ∷ [])) ∷ []
shapes_of mnemonics.Fence = [] ∷ (access_set ∷ comma_mark ∷ access_set ∷ []) ∷ []
shapes_of mnemonics.FenceI = [] ∷ []
shapes_of (mnemonics.Cache op) = memory_place ∷ []
shapes_of (mnemonics.LoadReserved f) = register_then memory_place ∷ []
shapes_of (mnemonics.Atomic op f) = register_then (register_then memory_place) ∷ []
shapes_of (mnemonics.System op) = [] ∷ []
shapes_of mnemonics.Nop = [] ∷ []
shapes_of mnemonics.Return = [] ∷ []
shapes_of (mnemonics.Unary op) = register_then (register_name ∷ []) ∷ []
shapes_of (mnemonics.ZeroBranch op) = register_then (target ∷ []) ∷ []
shapes_of (mnemonics.ExchangedBranch op) = register_then (register_then (target ∷ [])) ∷ []
shapes_of mnemonics.PlainJump = (target ∷ []) ∷ []
shapes_of mnemonics.PlainJumpRegister = (register_name ∷ []) ∷ []
shapes_of mnemonics.LoadNumber = register_then (signed_number ∷ []) ∷ []
shapes_of mnemonics.LoadAddress = register_then (label_name ∷ []) ∷ []
shapes_of (mnemonics.Section s) = [] ∷ []
shapes_of (mnemonics.Numbers width) = (number_list ∷ []) ∷ []
shapes_of mnemonics.Zeros = (signed_number ∷ []) ∷ []
shapes_of mnemonics.Align = (signed_number ∷ []) ∷ []

-- what stands in a shape's places, in order: names, which may be no register's, numbers, sets, and labels and targets
pub record Operands : Type 0 where
  pub names : List (List ℕ)
  pub numbers : List SignedNumber
  pub sets : List AccessSet
  pub targets : List Target

abbrev pub no_operands : Operands
no_operands = record { names = []; numbers = []; sets = []; targets = [] }

abbrev pub with_name : List ℕ → Operands → Operands
with_name text operands = record operands { names = text ∷ operands.names }

abbrev pub with_number : SignedNumber → Operands → Operands
with_number n operands = record operands { numbers = n ∷ operands.numbers }

abbrev pub with_set : AccessSet → Operands → Operands
with_set set operands = record operands { sets = set ∷ operands.sets }

abbrev pub with_target : Target → Operands → Operands
with_target place operands = record operands { targets = place ∷ operands.targets }

abbrev pub with_numbers : List SignedNumber → Operands
with_numbers ns = record { names = []; numbers = ns; sets = []; targets = [] }

-- what stands in one place, and the operands that follow it, where both are there
abbrev pub and_then : {A : Type 0} → (A → Operands → Operands) → Option (A × List Lexeme) → (List Lexeme → Option Operands) → Option Operands
and_then with None later = None
and_then with (Some (found, rest)) later = option_map (with found) (later rest)

-- a missing number is 0
abbrev pub no_offset : SignedNumber
no_offset = unsigned (Some 0)

abbrev pub or_missing : Option (SignedNumber × List Lexeme) → List Lexeme → Option (SignedNumber × List Lexeme)
or_missing (Some found) ls = Some found
or_missing None ls = Some (no_offset, ls)

-- the set that a lexeme stands for
abbrev pub set_at : Lexeme → Option AccessSet
set_at (name text) = set_of text
set_at (number size text) = set_of text
set_at l = None

abbrev pub set_then : List Lexeme → Option (AccessSet × List Lexeme)
set_then (l ∷ rest) = option_map (λ found. (found, rest)) (set_at l)
set_then [] = None

-- `.` alone, which is no label
abbrev pub is_dot : List ℕ → Bool
is_dot text = pointwise nat_eq text (codes ".")

abbrev pub label_then : List Lexeme → Option (Target × List Lexeme)
label_then (name text ∷ rest) = if is_dot text then None else Some (to_label text, rest)
label_then ls = None

-- `.+N` or `.-N`, after the `.`
abbrev pub distance_then : List Lexeme → Option (Target × List Lexeme)
distance_then (plus ∷ number size text ∷ rest) = Some (by_distance (unsigned size), rest)
distance_then (minus ∷ number size text ∷ rest) = Some (by_distance (negated size), rest)
distance_then ls = None

abbrev pub target_then : List Lexeme → Option (Target × List Lexeme)
target_then (name text ∷ rest) = if is_dot text then distance_then rest else Some (to_label text, rest)
target_then ls = None

-- the operands that lexemes give a shape, where they fit it from end to end
abbrev pub fit : List Slot → List Lexeme → Option Operands
fit [] [] = Some no_operands
fit (register_name ∷ slots) (name text ∷ ls) = option_map (with_name text) (fit slots ls)
fit (signed_number ∷ slots) ls = and_then with_number (number_then ls) (λ rest. fit slots rest)
fit (offset ∷ slots) ls = and_then with_number (or_missing (number_then ls) ls) (λ rest. fit slots rest)
fit (number_list ∷ []) ls = option_map with_numbers (numbers_of ls)
fit (access_set ∷ slots) ls = and_then with_set (set_then ls) (λ rest. fit slots rest)
fit (label_name ∷ slots) ls = and_then with_target (label_then ls) (λ rest. fit slots rest)
fit (target ∷ slots) ls = and_then with_target (target_then ls) (λ rest. fit slots rest)
fit (comma_mark ∷ slots) (comma ∷ ls) = fit slots ls
fit (open_mark ∷ slots) (opening ∷ ls) = fit slots ls
fit (close_mark ∷ slots) (closing ∷ ls) = fit slots ls
fit slots ls = None

-- the operands of the first shape that lexemes fit
abbrev pub fit_one : List (List Slot) → List Lexeme → Option Operands
fit_one [] ls = None
fit_one (shape ∷ []) ls = fit shape ls
fit_one (shape ∷ next ∷ shapes) ls = option_or (fit shape ls) (fit_one (next ∷ shapes) ls)

-- the range of a statement's numbers
pub record Interval : Type 0 where
  pub low : ℤ
  pub high : ℤ

abbrev pub from_to : ℤ → ℤ → Interval
from_to low high = record { low = low; high = high }

abbrev pub up_to : ℕ → Interval
up_to n = from_to (pos 0) (pos n)

-- the numbers of a directive: from minus half the unsigned range to its end
abbrev pub number_range : NumberWidth → Interval
number_range width = from_to (negsuc (2 ^ (8 * width_bytes width - 1) - 1)) (pos (2 ^ (8 * width_bytes width) - 1))

-- 12 bits with a sign
abbrev pub signed_12 : Interval
signed_12 = from_to (negsuc 2047) (pos 2047)

abbrev pub range_of : Mnemonic → Interval
range_of (mnemonics.Upper op) = up_to 1048575
range_of (mnemonics.Shift op) = up_to (2 ^ shift_bits op - 1)
range_of (mnemonics.Cache op) = up_to 0
range_of (mnemonics.LoadReserved f) = up_to 0
range_of (mnemonics.Atomic op f) = up_to 0
range_of mnemonics.LoadNumber = from_to (negsuc 2147483647) (pos 2147483647)
range_of (mnemonics.Numbers width) = number_range width
range_of mnemonics.Zeros = up_to 1048576
range_of mnemonics.Align = up_to 4096
range_of mnemonic = signed_12

-- the registers that names stand for
abbrev pub registers_of : List (List ℕ) → Result (List Reg) AsmCode
registers_of [] = Ok []
registers_of (text ∷ names) = do
  reg ← ok_or (register_of text) code.Register
  regs ← registers_of names
  Ok (reg ∷ regs)

-- the integers that numbers are, each in the range
abbrev pub integers_of : Interval → List SignedNumber → Result (List ℤ) AsmCode
integers_of range [] = Ok []
integers_of range (n ∷ ns) = do
  z ← within n range.low range.high
  zs ← integers_of range ns
  Ok (z ∷ zs)

-- what stands in a shape's places, checked
pub record Parts : Type 0 where
  pub registers : List Reg
  pub integers : List ℤ
  pub sets : List AccessSet
  pub targets : List Target

abbrev pub parts : List Reg → List ℤ → List AccessSet → List Target → Parts
parts regs zs sets targets = record { registers = regs; integers = zs; sets = sets; targets = targets }

-- operands that are there, with their registers and then their integers, each in the range, or the lowest code of the faults
abbrev pub checked : Interval → Option Operands → Result Parts AsmCode
checked range found = do
  operands ← ok_or found code.Operands
  regs ← registers_of operands.names
  zs ← integers_of range operands.numbers
  Ok (parts regs zs operands.sets operands.targets)

-- a branch to a label, or by a distance
abbrev pub branched : BranchOp → Reg → Reg → List Target → Result Meaning AsmCode
branched op rs1 rs2 (to_label text ∷ targets) = Ok (branch op rs1 rs2 text)
branched op rs1 rs2 (by_distance n ∷ targets) = do
  distance ← reached branch_reach (exact n)
  Ok (instruction (instrs.Branch op rs1 rs2 distance))
branched op rs1 rs2 [] = Err code.Operands

-- a jump to a label, or by a distance
abbrev pub jumped : Reg → List Target → Result Meaning AsmCode
jumped rd (to_label text ∷ targets) = Ok (jump rd text)
jumped rd (by_distance n ∷ targets) = do
  distance ← reached jump_reach (exact n)
  Ok (instruction (instrs.Jump rd distance))
jumped rd [] = Err code.Operands

-- the address of a label
abbrev pub addressed : Reg → List Target → Result Meaning AsmCode
addressed rd (to_label text ∷ targets) = Ok (address rd text)
addressed rd targets = Err code.Operands

-- JALR: one register is the address, and ra takes the return address
abbrev pub register_jump : List Reg → ℤ → Instr
register_jump (rd ∷ rs1 ∷ regs) z = instrs.JumpRegister rd rs1 z
register_jump regs z = instrs.JumpRegister return_register (slice_index_or regs 0 zero_register) (pos 0)

-- a number in a register: by ADDI where it has 12 bits, else always by LUI and ADDIW
abbrev pub loaded_number : Reg → ℤ → Meaning
loaded_number rd z =
    if int_le (negsuc 2047) z && int_le z (pos 2047) then instruction (instrs.Immediate Addi rd zero_register z)
    else pair (instrs.Upper Lui rd (upper_half z)) (instrs.Immediate Addiw rd rd (lower_half z))

-- the pseudo-instructions with two registers
abbrev pub unary : UnaryOp → Reg → Reg → Instr
unary Mv rd rs = instrs.Immediate Addi rd rs (pos 0)
unary Not rd rs = instrs.Immediate Xori rd rs (negsuc 0)
unary Neg rd rs = instrs.Register Sub rd zero_register rs
unary Negw rd rs = instrs.Register Subw rd zero_register rs
unary SextW rd rs = instrs.Immediate Addiw rd rs (pos 0)
unary Seqz rd rs = instrs.Immediate Sltiu rd rs (pos 1)
unary Snez rd rs = instrs.Register Sltu rd zero_register rs
unary Sltz rd rs = instrs.Register Slt rd rs zero_register
unary Sgtz rd rs = instrs.Register Slt rd zero_register rs

-- a comparison of a register with zero
abbrev pub zero_branch : ZeroBranchOp → Reg → List Target → Result Meaning AsmCode
zero_branch Beqz rs targets = branched Beq rs zero_register targets
zero_branch Bnez rs targets = branched Bne rs zero_register targets
zero_branch Blez rs targets = branched Bge zero_register rs targets
zero_branch Bgez rs targets = branched Bge rs zero_register targets
zero_branch Bltz rs targets = branched Blt rs zero_register targets
zero_branch Bgtz rs targets = branched Blt zero_register rs targets

-- the comparison that gives the answer when the registers are exchanged
abbrev pub exchanged : ExchangedBranchOp → BranchOp
exchanged Bgt = Blt
exchanged Ble = Bge
exchanged Bgtu = Bltu
exchanged Bleu = Bgeu

-- an alignment, which is a power of two
abbrev pub aligned : ℕ → Result Meaning AsmCode
aligned n = if is_power_of_two n then Ok (align n) else Err code.Range

-- a register, number or set by its place among those of its kind; where a shape has fewer of them, these stand for the
-- missing ones
abbrev pub reg : Parts → ℕ → Reg
reg p k = slice_index_or p.registers k zero_register

abbrev pub int : Parts → ℕ → ℤ
int p k = slice_index_or p.integers k (pos 0)

abbrev pub set : Parts → ℕ → AccessSet
set p k = slice_index_or p.sets k all_accesses

-- what a statement says with these parts
abbrev pub built : Mnemonic → Parts → Result Meaning AsmCode
built (mnemonics.Upper op) p = Ok (instruction (instrs.Upper op (reg p 0) (unsigned_abs (int p 0))))
built mnemonics.Jump p = jumped (slice_index_or p.registers 0 return_register) p.targets
built mnemonics.JumpRegister p = Ok (instruction (register_jump p.registers (int p 0)))
built (mnemonics.Branch op) p = branched op (reg p 0) (reg p 1) p.targets
built (mnemonics.Load op) p = Ok (instruction (instrs.Load op (reg p 0) (reg p 1) (int p 0)))
built (mnemonics.Store op) p = Ok (instruction (instrs.Store op (reg p 0) (reg p 1) (int p 0)))
built (mnemonics.Immediate op) p = Ok (instruction (instrs.Immediate op (reg p 0) (reg p 1) (int p 0)))
built (mnemonics.Shift op) p = Ok (instruction (instrs.Shift op (reg p 0) (reg p 1) (unsigned_abs (int p 0))))
built (mnemonics.Register op) p = Ok (instruction (instrs.Register op (reg p 0) (reg p 1) (reg p 2)))
built mnemonics.Fence p = Ok (instruction (instrs.Fence (set p 0) (set p 1)))
built mnemonics.FenceI p = Ok (instruction instrs.FenceI)
built (mnemonics.Cache op) p = Ok (instruction (instrs.Cache op (reg p 0)))
built (mnemonics.LoadReserved f) p =
    Ok (instruction (instrs.LoadReserved f.width (reg p 0) (reg p 1) f.acquire f.release))
built (mnemonics.Atomic op f) p =
    Ok (instruction (instrs.Atomic op f.width (reg p 0) (reg p 2) (reg p 1) f.acquire f.release))
built (mnemonics.System op) p = Ok (instruction (instrs.System op))
built mnemonics.Nop p = Ok (instruction (instrs.Immediate Addi zero_register zero_register (pos 0)))
built mnemonics.Return p = Ok (instruction (instrs.JumpRegister zero_register return_register (pos 0)))
built (mnemonics.Unary op) p = Ok (instruction (unary op (reg p 0) (reg p 1)))
built (mnemonics.ZeroBranch op) p = zero_branch op (reg p 0) p.targets
built (mnemonics.ExchangedBranch op) p = branched (exchanged op) (reg p 1) (reg p 0) p.targets
built mnemonics.PlainJump p = jumped zero_register p.targets
built mnemonics.PlainJumpRegister p = Ok (instruction (instrs.JumpRegister zero_register (reg p 0) (pos 0)))
built mnemonics.LoadNumber p = Ok (loaded_number (reg p 0) (int p 0))
built mnemonics.LoadAddress p = addressed (reg p 0) p.targets
built (mnemonics.Section s) p = Ok (section s)
built (mnemonics.Numbers width) p = Ok (numbers width (map (cast_unsigned (width_of width)) p.integers))
built mnemonics.Zeros p = Ok (zeros (unsigned_abs (int p 0)))
built mnemonics.Align p = aligned (unsigned_abs (int p 0))

-- what a statement says with these lexemes as operands
unfoldable pub statement_of : Mnemonic → List Lexeme → Result Meaning AsmCode
statement_of mnemonic ls = checked (range_of mnemonic) (fit_one (shapes_of mnemonic) ls) >>= λ p. built mnemonic p
