-- What harts share: a start and a history, from which the flat memory and the trace are read; and what memory answers to a
-- hart's request, which then joins the history.
-- Source: RISC-V Unprivileged ISA 20191213, chapter 2 ("Load and Store Instructions"), chapter 3 ("Zifencei") and
-- chapter 8 ("A" extension); RISC-V Cache Management Operations 1.0; which steps make events is this project's.
use Rattle.std.specs.Prelude.{ℕ, ◌-◌, ◌/◌, ◌%◌, List, [], ◌∷◌, ◌++◌, Option, Some, None, Bool, true, false, is_some, nat_le, if◌then◌else◌}
use Rattle.line_memory.specs.Memory.{Memory, fault_of, loaded_from}
use Rattle.line_memory.specs.Lines.{line_bytes}
use Rattle.line_memory.specs.Regions.{flat, padded, ram_bytes}
use Rattle.line_memory.specs.declared.MemFault.{MemFault}
use Rattle.line_memory.specs.declared.MemFault.TheVariants as faults
use Rattle.line_memory.specs.declared.TheConstants.{DATA_SIZE, PERSISTENT_BASE, TEXT_SIZE}
use Rattle.program.specs.Sections.{Sections}
use Rattle.store_trace.specs.declared.event.Event.{Event}
use Rattle.store_trace.specs.declared.event.Event.TheVariants as events
use Rattle.hart.specs.declared.need.Request.{Request}
use Rattle.hart.specs.declared.need.Request.TheVariants.{Load, Store, Lr, Sc, Amo, Cbo, Fence, FenceI, Begin, End}
use Rattle.hart.specs.declared.need.Reply.{Reply}
use Rattle.hart.specs.declared.need.Reply.TheVariants.{Value, Done, Fault}
use Rattle.hart.specs.declared.need.AccessFault.{AccessFault}
use Rattle.hart.specs.declared.need.AccessFault.TheVariants.{Misaligned, Outside}
use Rattle.machine.specs.declared.shared_memory.history.Entry.{Entry}
use Rattle.machine.specs.declared.shared_memory.history.Entry.TheVariants.{Asked, Evicted}
use Rattle.machine.specs.Histories.{Write, has_reserved, replayed, written}

-- what the harts share: the lines of the medium and the flat memory as they were at the start of the run, and the history of
-- requests with their replies and of evictions since, the newest first
pub record SharedState : Type 0 where
  pub start : List (List ℕ)
  pub initial : Memory
  pub history : List Entry

-- the flat memory as it is: that of the start, after all writes of the history
abbrev pub memory_in : SharedState → Memory
memory_in c = replayed c.initial c.history

-- the flat memory of a program's sections and the lines of a medium
abbrev pub starting_memory : Sections → List (List ℕ) → Memory
starting_memory program lines =
    flat (ram_bytes (record { text = padded program.text TEXT_SIZE; bytes = padded program.static_data DATA_SIZE })) (line_bytes lines)

-- what the harts share at the start of a run over a program's sections and the lines of a medium
abbrev pub shared_at_start : Sections → List (List ℕ) → SharedState
shared_at_start program lines = record {
  start = lines;
  initial = starting_memory program lines;
  history = [];
}

abbrev pub access_fault : MemFault → AccessFault
access_fault faults.Misaligned = Misaligned
access_fault faults.Outside = Outside

-- an access that can be made is done
abbrev pub done_unless : Option MemFault → Reply
done_unless None = Done
done_unless (Some fault) = Fault (access_fault fault)

-- the value of an access that can be made
abbrev pub value_unless : Option MemFault → Option ℕ → Reply
value_unless (Some fault) value = Fault (access_fault fault)
value_unless None (Some value) = Value value
value_unless None None = Fault Outside

-- an SC that can be made is answered 0 where its hart has reserved the line, else 1
abbrev pub outcome_unless : Option MemFault → Bool → Reply
outcome_unless (Some fault) reserved = Fault (access_fault fault)
outcome_unless None true = Value 0
outcome_unless None false = Value 1

-- the reply to a request of a hart that has reserved these lines of the address space. A cache-block operation is never
-- misaligned
abbrev pub replied : Memory → (ℕ → Bool) → Request → Reply
replied memory reserved (Load address width) = value_unless (fault_of memory address width) (loaded_from memory address width)
replied memory reserved (Store address width value) = done_unless (fault_of memory address width)
replied memory reserved (Lr address width) = value_unless (fault_of memory address width) (loaded_from memory address width)
replied memory reserved (Sc address width value) = outcome_unless (fault_of memory address width) (reserved (address / 64))
replied memory reserved (Amo op address width operand) =
    value_unless (fault_of memory address width) (loaded_from memory address width)
replied memory reserved (Cbo op address) = if is_some (memory address) then Done else Fault Outside
replied memory reserved Fence = Done
replied memory reserved FenceI = Done
replied memory reserved (Begin op) = Done
replied memory reserved (End op) = Done

-- the events of one that touches persistent memory
abbrev pub if_persistent : ℕ → Event → List Event
if_persistent address event = if nat_le PERSISTENT_BASE address then event ∷ [] else []

-- the line of an address in persistent memory, and its place in the line
abbrev pub line_of : ℕ → ℕ
line_of address = (address - PERSISTENT_BASE) / 64

abbrev pub offset_of : ℕ → ℕ
offset_of address = (address - PERSISTENT_BASE) % 64

-- the event of a store of hart h, from a place on that is counted from the base of persistent memory
abbrev pub store_event : ℕ → ℕ → ℕ → ℕ → Event
store_event h offset width value = events.Store h (offset / 64) (offset % 64) width value

-- a write of hart h to persistent memory is an event
abbrev pub events_of_write : ℕ → Option Write → List Event
events_of_write h None = []
events_of_write h (Some write) =
    if_persistent write.address (events.Store h (line_of write.address) (offset_of write.address) write.width write.value)

-- the event that hart h makes by a request, if it makes one: one that met a fault makes none
abbrev pub events_of : ℕ → Request → Reply → List Event
events_of h (Cbo op address) Done = if_persistent address (events.Clean h (line_of address))
events_of h Fence Done = events.Fence h ∷ []
events_of h (Begin op) Done = events.Begin h op ∷ []
events_of h (End op) Done = events.End h op ∷ []
events_of h request reply = events_of_write h (written request reply)

-- the events of a history, the oldest first
abbrev pub trace_of : List Entry → List Event
trace_of [] = []
trace_of (Asked h request reply ∷ before) = trace_of before ++ events_of h request reply
trace_of (Evicted line ∷ before) = trace_of before

-- the trace as it is
abbrev pub trace_in : SharedState → List Event
trace_in c = trace_of c.history

-- the reply to a request of hart h
abbrev pub reply_after : SharedState → ℕ → Request → Reply
reply_after c h request = replied (memory_in c) (has_reserved c.history h) request

-- what the harts share after a request of hart h: the request joins the history, with the reply to it
abbrev pub shared_after : SharedState → ℕ → Request → SharedState
shared_after c h request = record c { history = Asked h request (reply_after c h request) ∷ c.history }
