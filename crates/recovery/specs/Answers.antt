-- What a run of a recovery routine came to: the bytes that it names at its exit, or why it names none.
-- This project's own; a1 and a2 are x11 and x12 of the RISC-V calling convention.
use Rattle.std.specs.Prelude.{ℕ, zero, suc, ◌+◌, ◌==◌, ◌&&◌, List, [], ◌∷◌, ◌++◌, Bool, true, false, Option, Some, None, Result, Ok, Err, nat_le, slice_get, if◌then◌else◌}
use Rattle.line_memory.specs.Memory.{Memory}
use Rattle.line_memory.specs.declared.TheConstants.{DATA_BASE, DATA_SIZE}
use Rattle.hart.specs.Registers.{register}
use Rattle.hart.specs.declared.state.HartState.{HartState}
use Rattle.hart.specs.declared.state.Status.{Status}
use Rattle.hart.specs.declared.state.Status.TheVariants as statuses
use Rattle.machine.specs.Replies.{memory_in}
use Rattle.machine.specs.Run.{Config}
use Rattle.recovery.specs.declared.recovery_run.Cause.{Cause}
use Rattle.recovery.specs.declared.recovery_run.Cause.TheVariants.{Exit, Trap, Running, Answer, Events}

-- the bytes of a memory from an address on, so many; an address of no region adds none
abbrev pub byte_list : Option ℕ → List ℕ
byte_list None = []
byte_list (Some byte) = byte ∷ []

unfoldable pub bytes_from : Memory → ℕ → ℕ → List ℕ
bytes_from memory address zero = []
bytes_from memory address (suc count) = byte_list (memory address) ++ bytes_from memory (suc address) count

-- no bytes wherever they would be; else so many from an address on, where all of them are data and they are 65,536 at most
abbrev pub answer_at : Memory → ℕ → ℕ → Result (List ℕ) Cause
answer_at memory address count =
    if count == 0 then Ok []
    else (if nat_le DATA_BASE address && nat_le (address + count) (DATA_BASE + DATA_SIZE) && nat_le count 65536
    then Ok (bytes_from memory address count) else Err Answer)

-- by the status: the a2 bytes from a1 on of a hart that exited with code 0
abbrev pub answer_by : Memory → HartState → Status → Result (List ℕ) Cause
answer_by memory s (statuses.Exited zero) = answer_at memory (register s.registers 11) (register s.registers 12)
answer_by memory s (statuses.Exited (suc code)) = Err (Exit (suc code))
answer_by memory s (statuses.Trapped trap) = Err (Trap trap)
answer_by memory s statuses.Running = Err Running

abbrev pub answer_of_hart : Memory → Option HartState → Result (List ℕ) Cause
answer_of_hart memory None = Err Running
answer_of_hart memory (Some s) = answer_by memory s s.status

-- what a run of hart 0 came to that ended here, and whether it ended as its next step would make one event too many
abbrev pub answer : Config → Bool → Result (List ℕ) Cause
answer c true = Err Events
answer c false = answer_of_hart (memory_in c.common) (slice_get c.harts 0)
