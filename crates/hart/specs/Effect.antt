-- Effect: what one instruction does to a hart's registers, pc and status, what it asks of memory, and what the
-- reply does. It speaks of whole numbers, by the shape and mnemonic of the instruction.
-- Source: RISC-V Unprivileged ISA 20191213, chapters 2, 3, 5 and 8; RISC-V Cache Management Operations 1.0; the three
-- calls of ECALL, and that a trap stops the hart and changes its status alone, are this project's.
use Rattle.std.specs.Prelude.{ℕ, ℤ, ◌+◌, ◌-◌, ◌*◌, ◌%◌, ◌^◌, ◌==◌, not, Bool, if◌then◌else◌, pos, ◌+ℤ◌}
use Rattle.word_bits.specs.Numbers.{signed, wrap}
use Rattle.isa_table.specs.declared.access.AccessSet.{AccessSet}
use Rattle.isa_table.specs.declared.register.Reg.{Reg}
use Rattle.isa_table.specs.declared.instruction.Instr.{Instr}
use Rattle.isa_table.specs.declared.instruction.Instr.TheVariants as instrs
use Rattle.isa_table.specs.declared.instruction.UpperOp.TheVariants.{Lui, Auipc}
use Rattle.isa_table.specs.declared.instruction.BranchOp.{BranchOp}
use Rattle.isa_table.specs.declared.instruction.BranchOp.TheVariants.{Beq, Bne, Blt, Bge, Bltu, Bgeu}
use Rattle.isa_table.specs.declared.instruction.AtomicOp.{AtomicOp}
use Rattle.isa_table.specs.declared.instruction.AtomicOp.TheVariants.{Sc}
use Rattle.isa_table.specs.declared.instruction.SystemOp.TheVariants.{Ecall, Ebreak}
use Rattle.hart.specs.declared.state.HartState.{HartState}
use Rattle.hart.specs.declared.state.Status.TheVariants.{Running, Exited, Trapped}
use Rattle.hart.specs.declared.state.Trap.{Trap}
use Rattle.hart.specs.declared.state.Trap.TheVariants.{MisalignedTarget, UnknownCall, Breakpoint, MisalignedAccess, OutsideMemory}
use Rattle.hart.specs.declared.need.Need.{Need}
use Rattle.hart.specs.declared.need.Need.TheVariants.{Local, Ask, Stop}
use Rattle.hart.specs.declared.need.Request.{Request}
use Rattle.hart.specs.declared.need.Request.TheVariants as requests
use Rattle.hart.specs.declared.need.Reply.{Reply}
use Rattle.hart.specs.declared.need.Reply.TheVariants.{Value, Done, Fault}
use Rattle.hart.specs.declared.need.AccessFault.{AccessFault}
use Rattle.hart.specs.declared.need.AccessFault.TheVariants.{Misaligned, Outside}
use Rattle.hart.specs.Arithmetic.{extended, is_less, is_below, result_of, immediate_operation, shift_operation}
use Rattle.hart.specs.Memory.{load_width, store_width, atomic_width, load_result, atomic_result}
use Rattle.hart.specs.Registers.{register, written, start_registers}

-- the state in which hart h begins: pc at the base of the text region
abbrev pub start : ℕ → HartState
start h = record { pc = 0x1_0000; registers = start_registers h; status = Running }

-- the address of the next instruction
abbrev pub next_pc : HartState → ℕ
next_pc s = (s.pc + 4) % 2 ^ 64

-- the hart goes on to the next instruction
abbrev pub goes_on : HartState → HartState
goes_on s = record s { pc = next_pc s }

-- the hart writes a register and goes on
abbrev pub writes : HartState → ℕ → ℕ → HartState
writes s number value = record s { pc = next_pc s; registers = written s.registers number value }

-- the value of a register, and the address at an offset from it
abbrev pub value_of : HartState → Reg → ℕ
value_of s reg = register s.registers reg.number

abbrev pub address_of : HartState → Reg → ℤ → ℕ
address_of s base offset = wrap (pos (value_of s base) +ℤ offset)

-- the place at a distance from the instruction
abbrev pub place_of : HartState → ℤ → ℕ
place_of s distance = wrap (pos s.pc +ℤ distance)

-- the hart goes to a target; where that is no multiple of four it traps instead
abbrev pub goes_to : HartState → ℕ → Need
goes_to s target = if target % 4 == 0 then Local (record s { pc = target }) else Stop MisalignedTarget

-- a jump, which leaves the address of the instruction after it in a register; one that traps leaves nothing
abbrev pub jumps : HartState → ℕ → ℕ → Need
jumps s number target = goes_to (record s { registers = written s.registers number (next_pc s) }) target

-- whether a branch is taken
abbrev pub is_taken : BranchOp → ℕ → ℕ → Bool
is_taken Beq a b = a == b
is_taken Bne a b = not (a == b)
is_taken Blt a b = is_less 64 a b
is_taken Bge a b = not (is_less 64 a b)
is_taken Bltu a b = is_below 64 a b
is_taken Bgeu a b = not (is_below 64 a b)

abbrev pub branches : HartState → Bool → ℕ → Need
branches s taken target = if taken then goes_to s target else Local (goes_on s)

-- SC, or an atomic operation
abbrev pub atomic_request : AtomicOp → ℕ → ℕ → ℕ → Request
atomic_request Sc address width operand = requests.Sc address width operand
atomic_request op address width operand = requests.Amo op address width operand

-- ECALL, by the number in a7 (x17) and the argument in a0 (x10): exit, begin and end of an operation
abbrev pub calls : HartState → ℕ → ℕ → Need
calls s number argument =
    if number == 93 then Local (record s { pc = next_pc s; status = Exited (argument % 256) })
    else (if number == 2001 then Ask (requests.Begin argument)
    else (if number == 2002 then Ask (requests.End argument)
    else Stop UnknownCall))

-- FENCE: with memory writes before it a request, as it completes the hart's cleans; else it does nothing
abbrev pub fences : HartState → AccessSet → Need
fences s predecessor = if predecessor.memory_writes then Ask requests.Fence else Local (goes_on s)

-- what an instruction needs of the world: nothing, as it is a step of the registers alone; a reply to a request; or a trap
abbrev pub effect : HartState → Instr → Need
effect s (instrs.Upper Lui rd immediate) = Local (writes s rd.number (wrap (signed (immediate * 2 ^ 12) 32)))
effect s (instrs.Upper Auipc rd immediate) =
    Local (writes s rd.number (place_of s (signed (immediate * 2 ^ 12) 32)))
effect s (instrs.Jump rd distance) = jumps s rd.number (place_of s distance)
effect s (instrs.JumpRegister rd rs1 offset) =
    jumps s rd.number (address_of s rs1 offset - address_of s rs1 offset % 2)
effect s (instrs.Branch op rs1 rs2 distance) =
    branches s (is_taken op (value_of s rs1) (value_of s rs2)) (place_of s distance)
effect s (instrs.Load op rd rs1 offset) = Ask (requests.Load (address_of s rs1 offset) (load_width op))
effect s (instrs.Store op rs2 rs1 offset) =
    Ask (requests.Store (address_of s rs1 offset) (store_width op) (value_of s rs2))
effect s (instrs.Immediate op rd rs1 immediate) =
    Local (writes s rd.number (result_of (immediate_operation op) (value_of s rs1) (wrap immediate)))
effect s (instrs.Shift op rd rs1 amount) =
    Local (writes s rd.number (result_of (shift_operation op) (value_of s rs1) amount))
effect s (instrs.Register op rd rs1 rs2) =
    Local (writes s rd.number (result_of op (value_of s rs1) (value_of s rs2)))
effect s (instrs.Fence predecessor successor) = fences s predecessor
effect s instrs.FenceI = Ask requests.FenceI
effect s (instrs.Cache op rs1) = Ask (requests.Cbo op (value_of s rs1))
effect s (instrs.LoadReserved width rd rs1 acquire release) =
    Ask (requests.Lr (value_of s rs1) (atomic_width width))
effect s (instrs.Atomic op width rd rs1 rs2 acquire release) =
    Ask (atomic_request op (value_of s rs1) (atomic_width width) (value_of s rs2))
effect s (instrs.System Ecall) = calls s (register s.registers 17) (register s.registers 10)
effect s (instrs.System Ebreak) = Stop Breakpoint

-- the trap of an access that met a fault
abbrev pub trap_of : AccessFault → Trap
trap_of Misaligned = MisalignedAccess
trap_of Outside = OutsideMemory

-- the hart after the value that it asked for
abbrev pub takes : HartState → Instr → ℕ → HartState
takes s (instrs.Load op rd rs1 offset) value = writes s rd.number (load_result op value)
takes s (instrs.LoadReserved width rd rs1 acquire release) value =
    writes s rd.number (extended (8 * atomic_width width) value)
takes s (instrs.Atomic op width rd rs1 rs2 acquire release) value =
    writes s rd.number (atomic_result op (atomic_width width) value)
takes s i value = goes_on s

-- the hart after the reply to its request: an access that met a fault is a trap, which changes the status alone
abbrev pub answered : HartState → Instr → Reply → HartState
answered s i (Fault fault) = record s { status = Trapped (trap_of fault) }
answered s i (Value value) = takes s i value
answered s i Done = goes_on s
