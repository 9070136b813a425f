-- When a state stands for what a schedule leads to.
-- Source: this project's own; a hart's register steps touch its own state alone, so that it may be ahead of the schedule by some.
use Rattle.std.specs.Prelude.{◌≡◌, ◌≢◌, ◌⊎◌, ℕ, ◌≤◌, List, [], Some, length, slice_get}
use Rattle.bus.specs.Alone.{Asks, IsAsking}
use Rattle.hart.specs.Needs.{IsSpelledBy}
use Rattle.hart.specs.declared.need.Request.{Request}
use Rattle.hart.specs.declared.state.HartState.{HartState}
use Rattle.hart.specs.declared.state.Status.TheVariants.{Running}
use Rattle.isa_table.specs.declared.instruction.Instr.{Instr}
use Rattle.line_memory.specs.Memory.{Memory}
use Rattle.machine.specs.Histories.{fetched_text, has_reserved, text_of}
use Rattle.machine.specs.Replies.{SharedState, memory_in, trace_in}
use Rattle.machine.specs.Run.{Config, after_request, fetched}
use Rattle.store_trace.specs.History.{history}
use Rattle.schedule_states.specs.Ahead.{ComesAlone}
use Rattle.schedule_states.specs.HeldLines.{AreBelow}
use Rattle.schedule_states.specs.Memories.{IsKept, IsMemoryOf, TableView, memory_over}
use Rattle.schedule_states.specs.Requests.{is_reserved}
use Rattle.schedule_states.specs.StartLines.{memory_at}
use Rattle.schedule_states.specs.declared.claims.ClaimedLine.{ClaimedLine}
use Rattle.schedule_states.specs.declared.held_lines.HeldLine.{HeldLine}
use Rattle.schedule_states.specs.declared.line_state.LineState.{LineState}
use Rattle.schedule_states.specs.declared.program_state.HartPart.{HartPart}
use Rattle.schedule_states.specs.declared.program_state.ProgramState.{ProgramState}

-- what states have in common: the lines by the numbers of their states, lists of held lines by their numbers, and what is claimed of lines
pub record PartsView : Type 0 where
  pub table : TableView
  pub lists : List (List HeldLine)
  pub claims : List ClaimedLine

-- each list holds lines by numbers of states that are there, and the first one holds none
pub record AreLists (states : List LineState) (lists : List (List HeldLine)) : Type 0 where
  pub below : (n : ℕ) (held : List HeldLine) → slice_get lists n ≡ Some held → AreBelow (length states) held
  pub first : slice_get lists 0 ≡ Some []

-- they grow: each number stays that of its list
pub record AreGrown (old new : PartsView) : Type 0 where
  pub table : IsKept old.table new.table
  pub lists : (n : ℕ) (held : List HeldLine) → slice_get old.lists n ≡ Some held → slice_get new.lists n ≡ Some held
  pub claims : new.claims ≡ old.claims

-- the text of the list of this number
pub record IsText (parts : PartsView) (number : ℕ) (text : Memory) : Type 0 where
  pub held : List HeldLine
  pub found : slice_get parts.lists number ≡ Some held
  pub below : AreBelow (length parts.table.states) held
  pub is : text ≡ text_of (memory_over parts.table.states held (memory_at parts.table.start))

-- the text that hart h fetches
abbrev pub text_for : SharedState → ℕ → Memory
text_for common h = fetched_text common.initial h common.history

-- the hart's next step is a request, or it has stopped
abbrev pub IsReady : Memory → HartState → Type 0
IsReady text s = IsAsking text s ⊎ (s.status ≢ Running)

-- the part of a state that is hart h's: the hart ahead of its own state, its reservation, and its copy of the text
pub record IsHartOf (parts : PartsView) (common : SharedState) (h : ℕ) (part : HartPart) (own : HartState) : Type 0 where
  pub text : IsText parts part.text (text_for common h)
  pub ahead : ComesAlone (text_for common h) own part.state
  pub ready : IsReady (text_for common h) part.state
  pub reserved : (l : ℕ) → is_reserved part.reserved l ≡ has_reserved common.history h l

-- The state stands for this configuration: what each hart has, what loads find, and what a power cut may leave of each line.
pub record StandsFor (parts : PartsView) (s : ProgramState) (c : Config) : Type 0 where
  pub count : length s.harts.items ≡ length c.harts
  pub few : length c.harts ≤ 8
  pub harts : (h : ℕ) (part : HartPart) (own : HartState) → slice_get s.harts.items h ≡ Some part → slice_get c.harts h ≡ Some own →
      IsHartOf parts c.common h part own
  pub held : List HeldLine
  pub found : slice_get parts.lists s.memory ≡ Some held
  pub memory : IsMemoryOf parts.table.start parts.table.states held (memory_in c.common) (history (trace_in c.common))

-- from c hart h comes to d by a request
pub record AsksTo (c : Config) (h : ℕ) (d : Config) : Type 0 where
  pub own : HartState
  pub instr : Instr
  pub request : Request
  pub here : slice_get c.harts h ≡ Some own
  pub asks : Asks (text_for c.common h) own request
  pub spelled : IsSpelledBy (fetched (text_for c.common h) own.pc) instr
  pub is : d ≡ after_request c h own instr request
