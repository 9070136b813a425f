-- The text that answers a line.
use Rattle.std.specs.Prelude.{ℕ, ◌+◌, ◌/◌, ◌%◌, ◌++◌, ◌∷◌, Bool, List, [], Option, Some, None, Result, Ok, Err, codes, decimal, if◌then◌else◌, slice_get, ◌==◌}
use Rattle.std.specs.List.{flat_map, range_with_len}
use Rattle.hart.specs.Registers.{register}
use Rattle.hart.specs.declared.state.HartState.{HartState}
use Rattle.hart.specs.HartLines.{hart_line, hexadecimal}
use Rattle.machine.specs.Represents.{MachineView}
use Rattle.debugger.specs.declared.fault.DebugFault.{DebugFault}
use Rattle.debugger.specs.declared.stop.Cause.{Cause}
use Rattle.debugger.specs.declared.stop.Cause.TheVariants as causes
use Rattle.debugger.specs.Code.{KnownCode, plain_place}
use Rattle.debugger.specs.Codes.{code}
use Rattle.debugger.specs.CommandEffects.{SessionState, byte_at}
use Rattle.debugger.specs.Help.{help_text}
use Rattle.debugger.specs.LinesAtRisk.{lines_text}
use Rattle.debugger.specs.declared.sessions.effects.Answer.{Answer}
use Rattle.debugger.specs.declared.sessions.effects.Answer.TheVariants as answers

-- a text and a line end
abbrev pub line_of : List ℕ → List ℕ
line_of text = text ++ 10 ∷ []

-- `fault CODE`
abbrev pub fault_text : DebugFault → List ℕ
fault_text fault = line_of (codes "fault " ++ code fault)

-- `hN` and its pc, as it is told
abbrev pub hart_place : ℕ → List ℕ → List ℕ
hart_place hart place = codes "h" ++ (decimal hart ++ place)

-- a stop tells what is known of its pc where stops are told with their place
abbrev pub stop_place : KnownCode → ℕ → List ℕ
stop_place known pc = if known.is_placed then known.place pc else plain_place pc

-- `break` and where it is, `watch hN line=0xH` and `end`
abbrev pub stop_text : KnownCode → Cause → List ℕ
stop_text known (causes.Break hart pc) = line_of (codes "break " ++ hart_place hart (stop_place known pc))
stop_text known (causes.Watch hart line) = line_of (codes "watch h" ++ (decimal hart ++ (codes " line=0x" ++ hexadecimal line)))
stop_text known causes.End = line_of (codes "end")

-- `xN=0xH`
abbrev pub register_line : ℕ → ℕ → List ℕ
register_line number value = line_of (codes "x" ++ (decimal number ++ (codes "=0x" ++ hexadecimal value)))

-- `pc=0xH`, and then x0 to x31
unfoldable pub state_text : HartState → List ℕ
state_text state = line_of (codes "pc=0x" ++ hexadecimal state.pc)
    ++ flat_map (λ number. register_line number (register state.registers number)) (range_with_len 0 32)

-- the line of a hart
unfoldable pub hart_text : ℕ → HartState → List ℕ
hart_text hart state = line_of (hart_line hart state)

-- the text of what is there
abbrev pub text_of : {A : Type 0} → (A → List ℕ) → Option A → List ℕ
text_of text None = []
text_of text (Some value) = text value

-- a byte as two hexadecimal digits
abbrev pub byte_text : ℕ → List ℕ
byte_text byte = hexadecimal (byte / 16) ++ hexadecimal (byte % 16)

-- the byte at this place of several, with a space between two
abbrev pub parted_byte : ℕ → Option ℕ → List ℕ
parted_byte place byte = (if place == 0 then [] else codes " ") ++ text_of byte_text byte

-- the bytes from an address on
abbrev pub bytes_text : MachineView → ℕ → ℕ → List ℕ
bytes_text machine address count =
    line_of (flat_map (λ place. parted_byte place (byte_at machine (address + place))) (range_with_len 0 count))

-- what a command that was carried out is answered with
abbrev pub answer_text : KnownCode → MachineView → Answer → List ℕ
answer_text known machine answers.Done = line_of (codes "ok")
answer_text known machine (answers.Hart hart before after) = hart_text hart after
answer_text known machine (answers.Stop cause) = stop_text known cause
answer_text known machine (answers.Registers state) = state_text state
answer_text known machine (answers.Where hart pc) = line_of (hart_place hart (known.place pc))
answer_text known machine (answers.Bytes address count) = bytes_text machine address count
answer_text known machine answers.Lines = lines_text machine.shared.trace
answer_text known machine answers.Help = help_text
answer_text known machine answers.Quit = []

-- where a hart of the machine is
abbrev pub hart_where : KnownCode → ℕ → HartState → List ℕ
hart_where known hart state = line_of (hart_place hart (known.place state.pc))

abbrev pub machine_where : KnownCode → MachineView → ℕ → List ℕ
machine_where known machine hart = text_of (hart_where known hart) (slice_get machine.harts hart)

-- `xN=0xH` of a register that has changed
abbrev pub changed_register : HartState → HartState → ℕ → List ℕ
changed_register before after number =
    if register before.registers number == register after.registers number then []
    else register_line number (register after.registers number)

-- those of the first registers
unfoldable pub changed_text : HartState → HartState → ℕ → List ℕ
changed_text before after registers = flat_map (changed_register before after) (range_with_len 0 registers)

-- what is said behind an answer with `verbose on`: where the hart of a step or of a stop is, and what the step has changed
abbrev pub further_text : KnownCode → MachineView → Answer → List ℕ
further_text known machine (answers.Hart hart before after) = hart_where known hart after ++ changed_text before after 32
further_text known machine (answers.Stop (causes.Break hart pc)) = machine_where known machine hart
further_text known machine (answers.Stop (causes.Watch hart line)) = machine_where known machine hart
further_text known machine answer = []

-- an answer with what is said behind it
abbrev pub told_text : Bool → KnownCode → MachineView → Answer → List ℕ
told_text verbose known machine answer =
    answer_text known machine answer ++ (if verbose then further_text known machine answer else [])

-- what a line is answered with; nothing where it has no words
abbrev pub outcome_text : KnownCode → SessionState → Result (Option Answer) DebugFault → List ℕ
outcome_text known state (Ok found) = text_of (told_text state.kept.verbose known state.debugger.machine) found
outcome_text known state (Err fault) = fault_text fault
