-- The line that shows a hart.
use Rattle.std.specs.Prelude.{ℕ, List, [], ◌++◌, ◌==◌, if◌then◌else◌, false, codes, decimal}
use Rattle.std.specs.Fmt.{digits}
use Rattle.std.specs.List.{flat_map, range_with_len}
use Rattle.hart.specs.declared.state.HartState.{HartState}
use Rattle.hart.specs.declared.state.Status.{Status}
use Rattle.hart.specs.declared.state.Status.TheVariants.{Running, Exited, Trapped}
use Rattle.hart.specs.declared.state.Trap.{Trap}
use Rattle.hart.specs.declared.state.Trap.TheVariants as traps
use Rattle.hart.specs.Registers.{register}

-- plain lower-case hexadecimal
abbrev pub hexadecimal : ℕ → List ℕ
hexadecimal n = digits 16 false n

-- the number that a trap is known by
abbrev pub trap_number : Trap → ℕ
trap_number traps.NoInstruction = 1
trap_number traps.OutsideText = 2
trap_number traps.MisalignedTarget = 3
trap_number traps.MisalignedAccess = 4
trap_number traps.OutsideMemory = 5
trap_number traps.UnknownCall = 6
trap_number traps.Breakpoint = 7

-- `running`, `exit C` or `trap TN`
abbrev pub status_text : Status → List ℕ
status_text Running = codes "running"
status_text (Exited code) = codes "exit " ++ decimal code
status_text (Trapped trap) = codes "trap T" ++ decimal (trap_number trap)

-- ` xR=0xH`; a register that is zero isn't shown
abbrev pub register_text : ℕ → ℕ → List ℕ
register_text number value =
    if value == 0 then [] else codes " x" ++ (decimal number ++ (codes "=0x" ++ hexadecimal value))

-- those of the registers x1 to x31
abbrev pub registers_text : List ℕ → List ℕ
registers_text registers = flat_map (λ number. register_text number (register registers number)) (range_with_len 1 31)

-- `hN STATUS pc=0xH`, and then the registers that aren't zero
abbrev pub hart_line : ℕ → HartState → List ℕ
hart_line hart state = codes "h" ++ (decimal hart ++ (codes " " ++ (status_text state.status
    ++ (codes " pc=0x" ++ (hexadecimal state.pc ++ registers_text state.registers)))))
