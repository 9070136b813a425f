-- The flat memory of a state, and what a power cut may leave of each line of the medium.
use Rattle.std.specs.Prelude.{◌≡◌, ◌≢◌, ◌⊎◌, ℕ, ◌+◌, ◌-◌, ◌*◌, ◌/◌, ◌%◌, ◌<◌, nat_le, if◌then◌else◌, List, [], ◌∷◌, ◌++◌, take, Option, Some, None, option_and_then, length, slice_get}
use Rattle.line_memory.specs.Lines.{line_at}
use Rattle.line_memory.specs.Memory.{Memory}
use Rattle.line_memory.specs.declared.TheConstants.{PERSISTENT_BASE}
use Rattle.store_trace.specs.declared.crash_model.step.PersistenceStep.{PersistenceStep}
use Rattle.store_trace.specs.declared.crash_model.step.PersistenceStep.TheVariants.{Clean, Fence, Store}
use Rattle.schedule_states.specs.HeldLines.{AreBelow, number_of}
use Rattle.schedule_states.specs.LineStates.{IsLine, IsLineState}
use Rattle.schedule_states.specs.Numbers.{AreKept}
use Rattle.schedule_states.specs.StartLines.{ShowsLine, StartView, memory_at}
use Rattle.schedule_states.specs.declared.held_lines.HeldLine.{HeldLine}
use Rattle.schedule_states.specs.declared.line_state.LineState.{LineState}

-- the state of line l of the address space, where it isn't as it was at the start
abbrev pub state_in : List LineState → List HeldLine → ℕ → Option LineState
state_in states held l = option_and_then (slice_get states) (number_of held l)

-- a byte of a line that has a state, and else that of the start
abbrev pub byte_in : Option LineState → Memory → Memory
byte_in None start address = start address
byte_in (Some s) start address = slice_get s.bytes (address % 64)

-- flat memory: the lines held over those of the start
unfoldable pub memory_over : List LineState → List HeldLine → Memory → Memory
memory_over states held start address = byte_in (state_in states held (address / 64)) start address

-- what a contract sees of a state's memory
pub record MemoryView : Type 0 where
  pub start : StartView
  pub states : List LineState
  pub held : List HeldLine

abbrev pub memory_of : MemoryView → Memory
memory_of m = memory_over m.states m.held (memory_at m.start)

-- line l of the medium after these persistence steps has this state, or just what it began with
abbrev pub IsLineOf : List ℕ → ℕ → List PersistenceStep → Option LineState → Type 0
IsLineOf start l p (Some s) = IsLineState start l p s
IsLineOf start l p None = IsLine start l p start []

-- The lines that are held, over what a run starts from: they leave this flat memory, and each line of the medium as it is after these
-- persistence steps.
pub record IsMemoryOf (start : StartView) (states : List LineState) (held : List HeldLine) (memory : Memory) (p : List PersistenceStep) : Type 0 where
  pub below : AreBelow (length states) held
  pub flat : memory ≡ memory_over states held (memory_at start)
  pub lines : (l : ℕ) → l < length start.medium → IsLineOf (line_at start.medium l) l p (state_in states held (16777216 + l))

-- two states of a line are the same
pub record AreSame (one other : LineState) : Type 0 where
  pub bytes : other.bytes ≡ one.bytes
  pub others : other.others.items ≡ one.others.items

-- what a contract sees of a table of lines: what a run starts from, and the states by their numbers
pub record TableView : Type 0 where
  pub start : StartView
  pub states : List LineState

-- a line that has this state is as it was at the start
pub record IsAsAtStart (start : StartView) (line : ℕ) (state : LineState) : Type 0 where
  pub shown : ShowsLine (memory_at start) line state.bytes
  pub certain : state.others.items ≡ []
  pub medium : (l : ℕ) → line ≡ 16777216 + l → state.bytes ≡ line_at start.medium l

-- a line has this state by what is held of it: by the same state, or by none where it is as it was at the start
abbrev pub IsStateOf : StartView → ℕ → LineState → Option LineState → Type 0
IsStateOf start line state (Some s) = AreSame state s
IsStateOf start line state None = IsAsAtStart start line state

-- the lines that are held are those of before, but that this line has this state
pub record IsPut (old new : TableView) (held : List HeldLine) (line : ℕ) (state : LineState) (lines : List HeldLine) : Type 0 where
  pub below : AreBelow (length new.states) lines
  pub here : IsStateOf new.start line state (state_in new.states lines line)
  pub others : (l : ℕ) → l ≢ line → state_in new.states lines l ≡ state_in old.states held l

-- the state is that of a line by what is held
pub record IsStateNow (table : TableView) (held : List HeldLine) (line : ℕ) (state : LineState) : Type 0 where
  pub shown : ShowsLine (memory_over table.states held (memory_at table.start)) line state.bytes
  pub whole : length state.bytes ≡ 64
  pub is : (l : ℕ) → line ≡ 16777216 + l → (p : List PersistenceStep) → IsLineOf (line_at table.start.medium l) l p (state_in table.states held line) →
      IsLineState (line_at table.start.medium l) l p state

-- what a write does to persistent memory: nothing where it is to text or data
abbrev pub steps_of_write : ℕ → ℕ → ℕ → List PersistenceStep
steps_of_write address width value =
    if nat_le PERSISTENT_BASE address
    then Store ((address - PERSISTENT_BASE) / 64) ((address - PERSISTENT_BASE) % 64) width value ∷ []
    else []

-- what a clean by a hart does to persistent memory: nothing where the address is one of text or data
abbrev pub steps_of_clean : ℕ → ℕ → List PersistenceStep
steps_of_clean hart address = if nat_le PERSISTENT_BASE address then Clean hart ((address - PERSISTENT_BASE) / 64) ∷ [] else []

-- By what was held of a line and what is held of it, persistence steps that change no byte were made: where they are those of line l of the
-- medium, it is as it is after them.
pub record IsLineAfter (start : StartView) (steps : ℕ → List PersistenceStep) (line : ℕ) (before after : Option LineState) : Type 0 where
  pub bytes : (offset : ℕ) → offset < 64 → byte_in after (memory_at start) (64 * line + offset) ≡ byte_in before (memory_at start) (64 * line + offset)
  pub medium : (l : ℕ) → line ≡ 16777216 + l → (p : List PersistenceStep) → IsLineOf (line_at start.medium l) l p before →
      IsLineOf (line_at start.medium l) l (steps l ++ p) after

-- the same of each line
pub record AreLinesAfter (old new : TableView) (steps : ℕ → List PersistenceStep) (held lines : List HeldLine) : Type 0 where
  pub below : AreBelow (length new.states) lines
  pub each : (line : ℕ) → IsLineAfter old.start steps line (state_in old.states held line) (state_in new.states lines line)

-- what a fence of a hart makes of one line: by what was held of it, where the lines are those of before but for it
pub record IsFencedAt (old new : TableView) (hart : ℕ) (held before : List HeldLine) (line : ℕ) (after : List HeldLine) : Type 0 where
  pub below : AreBelow (length new.states) after
  pub here : IsLineAfter old.start (λ l. Fence hart ∷ []) line (state_in old.states held line) (state_in new.states after line)
      ⊎ ((state_in new.states after line ≡ state_in old.states before line)
      × IsLineAfter old.start (λ l. Fence hart ∷ []) line (state_in old.states held line) (state_in old.states held line))
  pub others : (l : ℕ) → l ≢ line → state_in new.states after l ≡ state_in old.states before l

-- so of the lines that stand among the first ones held, where the others are as they were
pub record AreLinesSoFar (old new : TableView) (steps : ℕ → List PersistenceStep) (held : List HeldLine) (count : ℕ) (lines : List HeldLine) : Type 0 where
  pub start : new.start ≡ old.start
  pub grows : AreKept old.states new.states
  pub below : AreBelow (length new.states) lines
  pub each : (line : ℕ) → IsLineAfter old.start steps line (state_in old.states held line) (state_in new.states lines line)
      ⊎ ((state_in new.states lines line ≡ state_in old.states held line) × (number_of (take count held) line ≡ None))

-- a table that grew: it starts from the same, and each number stays that of its state
pub record IsKept (old new : TableView) : Type 0 where
  pub start : new.start ≡ old.start
  pub grows : AreKept old.states new.states
