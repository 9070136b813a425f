-- What comes of a state by a request of one of its harts.
use Rattle.std.specs.Prelude.{Option, ◌≡◌, ◌≢◌, ◌⊎◌, ◌<◌, ◌++◌, ℕ, true, false, List, [], All, Some, None, length, slice_get, slice_index_or}
use Rattle.bus.specs.Alone.{Asks}
use Rattle.hart.specs.Effect.{answered, start}
use Rattle.hart.specs.Needs.{IsSpelledBy}
use Rattle.hart.specs.Requests.{IsRequest}
use Rattle.isa_table.specs.declared.instruction.Instr.{Instr}
use Rattle.hart.specs.declared.need.Request.{Request}
use Rattle.hart.specs.declared.need.Reply.{Reply}
use Rattle.machine.specs.Histories.{calls_of, is_renewing, text_of}
use Rattle.machine.specs.declared.shared_memory.history.Entry.TheVariants.{Asked}
use Rattle.machine.specs.Run.{Config, fetched}
use Rattle.reservation.specs.Reserved.{Call, is_reserved as is_reserved_by}
use Rattle.schedule_states.specs.Ahead.{ComesAlone}
use Rattle.schedule_states.specs.Behind.{GoesOwnBy, IsFit}
use Rattle.schedule_states.specs.Claims.{IsLocal, claim_in}
use Rattle.schedule_states.specs.HeldLines.{AreBelow}
use Rattle.line_memory.specs.Memory.{Memory}
use Rattle.machine.specs.Histories.{memory_after}
use Rattle.machine.specs.Replies.{events_of, replied, reply_after, trace_in}
use Rattle.store_trace.specs.History.{history}
use Rattle.store_trace.specs.declared.crash_model.step.PersistenceStep.{PersistenceStep}
use Rattle.store_trace.specs.declared.event.Event.{Event}
use Rattle.schedule_states.specs.Marks.{IsMarkedBy}
use Rattle.schedule_states.specs.Memories.{IsMemoryOf, memory_over}
use Rattle.schedule_states.specs.Requests.{is_reserved}
use Rattle.schedule_states.specs.StartLines.{memory_at}
use Rattle.schedule_states.specs.States.{AreGrown, AreLists, AsksTo, IsReady, PartsView, StandsFor}
use Rattle.schedule_states.specs.declared.held_lines.HeldLine.{HeldLine}
use Rattle.schedule_states.specs.declared.parts.Asking.{Asking}
use Rattle.schedule_states.specs.declared.program_state.HartPart.{HartPart}
use Rattle.schedule_states.specs.declared.program_state.ProgramState.{ProgramState}
use Rattle.schedule_states.specs.declared.successor.Successor.{Successor}
use Rattle.schedule_states.specs.declared.successor.Successor.TheVariants as successors

-- the state has numbers of lists that are there
pub record HasLists (parts : PartsView) (s : ProgramState) : Type 0 where
  pub memory : s.memory < length parts.lists
  pub texts : All (λ part. part.text < length parts.lists) s.harts.items

-- another hart's part after a request
pub record IsOtherAfter (request : Request) (reply : Reply) (before after : HartPart) : Type 0 where
  pub state : after.state ≡ before.state
  pub text : after.text ≡ before.text
  pub reserved : (h g : ℕ) (calls : List Call) → h ≢ g → ((l : ℕ) → is_reserved before.reserved l ≡ is_reserved_by g l calls) →
      (l : ℕ) → is_reserved after.reserved l ≡ is_reserved_by g l (calls_of (Asked h request reply) ++ calls)

-- the part of hart g after a request of hart h, whose own part is given
abbrev pub IsPartAfter : ℕ → HartPart → Request → Reply → List HartPart → ℕ → HartPart → Type 0
IsPartAfter h own request reply before g part = ((g ≡ h) × (part ≡ own))
    ⊎ ((g ≢ h) × ((was : HartPart) × (slice_get before g ≡ Some was) × IsOtherAfter request reply was part))

-- the parts of all harts after it
pub record AreHartsAfter (h : ℕ) (own : HartPart) (request : Request) (reply : Reply) (before after : List HartPart) : Type 0 where
  pub count : length after ≡ length before
  pub each : (g : ℕ) (part : HartPart) → slice_get after g ≡ Some part → IsPartAfter h own request reply before g part

-- the parts of other harts than this one are as before, but for what they have reserved
abbrev pub AreOthersAlike : ℕ → List HartPart → List HartPart → Type 0
AreOthersAlike h before after = (g : ℕ) (was part : HartPart) → slice_get before g ≡ Some was → slice_get after g ≡ Some part → g ≢ h →
    (part.state ≡ was.state) × (part.text ≡ was.text)

-- so many harts as before, of which this one alone has moved
pub record HaveMoved (h : ℕ) (before after : List HartPart) : Type 0 where
  pub count : length after ≡ length before
  pub others : AreOthersAlike h before after

-- the number of a list with the text of these lines: where the request renews the copy of the text, and else the number of before
pub record IsTextAfter (parts : PartsView) (request : Request) (lines : List HeldLine) (before after : ℕ) : Type 0 where
  pub kept : is_renewing request ≡ false → after ≡ before
  pub renewed : is_renewing request ≡ true → (held : List HeldLine) × (slice_get parts.lists after ≡ Some held)
      × (text_of (memory_over parts.table.states held (memory_at parts.table.start)) ≡ text_of (memory_over parts.table.states lines (memory_at parts.table.start)))

-- the claim holds of the state that comes, if one does
abbrev pub IfState : Successor → (ProgramState → Type 0) → Type 0
IfState (successors.State next mark) claim = claim next
IfState successors.Stopped claim = Unit {0}
IfState successors.TooLong claim = Unit {0}
IfState (successors.Claimed line) claim = Unit {0}

-- what comes of a state by the request of a hart alone: what the state stands for comes to what the next state stands for, with this mark, if it
-- sets one; a hart that has stopped makes none
abbrev pub IsSuccessor : PartsView → PartsView → ProgramState → ℕ → Successor → Type 0
IsSuccessor old new s h (successors.State next mark) = (c d : Config) → StandsFor old s c → AsksTo c h d →
    StandsFor new next d × IsMarkedBy mark (trace_in c.common) (trace_in d.common)
IsSuccessor old new s h successors.Stopped = (c d : Config) → StandsFor old s c → ¬ AsksTo c h d
IsSuccessor old new s h successors.TooLong = Unit {0}
IsSuccessor old new s h (successors.Claimed line) = Unit {0}

-- it isn't known what comes of the state
abbrev pub IsUnknown : Successor → Type 0
IsUnknown (successors.State next mark) = ⊥
IsUnknown successors.Stopped = ⊥
IsUnknown successors.TooLong = Unit {0}
IsUnknown (successors.Claimed line) = Unit {0}

-- A request of hart h from c leads to d: it keeps to the claims, and steps of the hart that are its own affair lead on to what the next state
-- stands for. It sets this mark, if it sets one.
pub record IsTurned (old new : PartsView) (h : ℕ) (next : ProgramState) (mark : Option Event) (c d : Config) (request : Request) : Type 0 where
  pub fits : IsFit (claim_in old.claims) h request
  pub steps : ℕ
  pub end : Config
  pub goes : GoesOwnBy (claim_in old.claims) h steps d end
  pub none : old.claims ≡ [] → end ≡ d
  pub stands : StandsFor new next end
  pub marked : (events : List Event) → IsMarkedBy mark events (events ++ events_of h request (reply_after c.common h request))

-- what comes of a state by the request of a hart, and by those behind it that are the hart's own affair
abbrev pub IsTurnOf : PartsView → PartsView → ProgramState → ℕ → Successor → Type 0
IsTurnOf old new s h (successors.State next mark) = (c d : Config) → StandsFor old s c → (asks : AsksTo c h d) → IsTurned old new h next mark c d asks.request
IsTurnOf old new s h successors.Stopped = (c d : Config) → StandsFor old s c → ¬ AsksTo c h d
IsTurnOf old new s h successors.TooLong = Unit {0}
IsTurnOf old new s h (successors.Claimed line) = Unit {0}

-- steps of hart h that are its own affair lead from what the state stands for to what the next one stands for
pub record HasGoneOn (old new : PartsView) (h : ℕ) (next : ProgramState) (c : Config) : Type 0 where
  pub steps : ℕ
  pub end : Config
  pub goes : GoesOwnBy (claim_in old.claims) h steps c end
  pub none : old.claims ≡ [] → end ≡ c
  pub stands : StandsFor new next end

abbrev pub IsSettled : PartsView → PartsView → ProgramState → ℕ → ProgramState → Type 0
IsSettled old new s h next = (c : Config) → StandsFor old s c → HasGoneOn old new h next c

-- the memory that a list of lines holds over the start
abbrev pub memory_held : PartsView → List HeldLine → Memory
memory_held parts held = memory_over parts.table.states held (memory_at parts.table.start)

-- the lines that are held after a request with its reply
pub record AreServed (old new : PartsView) (h : ℕ) (request : Request) (reply : Reply) (held lines : List HeldLine) : Type 0 where
  pub below : AreBelow (length new.table.states) lines
  pub served : (memory : Memory) (p : List PersistenceStep) → IsMemoryOf old.table.start old.table.states held memory p →
      IsMemoryOf new.table.start new.table.states lines (memory_after memory request reply) (history (events_of h request reply) ++ p)

-- What the parts and the states are once a request of hart h was served: `part` and `own` are the hart's own part before and after it.
pub record IsServedFor (old new : PartsView) (s next : ProgramState) (h : ℕ) (part own : HartPart) (instr : Instr) (request : Request) (reply : Reply)
    (lines : List HeldLine) : Type 0 where
  pub grown : AreGrown old new
  pub lists : AreLists new.table.states new.lists
  pub part_is : slice_get s.harts.items h ≡ Some part
  pub reply_is : reply ≡ replied (memory_held old (slice_index_or old.lists s.memory [])) (is_reserved part.reserved) request
  pub served : AreServed old new h request reply (slice_index_or old.lists s.memory []) lines
  pub memory : slice_get new.lists next.memory ≡ Some lines
  pub text : IsTextAfter new request lines part.text own.text
  pub ahead : ComesAlone (text_of (memory_held new (slice_index_or new.lists own.text []))) (answered part.state instr reply) own.state
  pub ready : IsReady (text_of (memory_held new (slice_index_or new.lists own.text []))) own.state
  pub reserved : (calls : List Call) → ((l : ℕ) → is_reserved part.reserved l ≡ is_reserved_by h l calls) →
      (l : ℕ) → is_reserved own.reserved l ≡ is_reserved_by h l (calls_of (Asked h request reply) ++ calls)
  pub harts : AreHartsAfter h own request reply s.harts.items next.harts.items

-- a hart of the state, its part there, and its next request, which its instruction makes
pub record IsAskingOf (parts : PartsView) (s : ProgramState) (asking : Asking) : Type 0 where
  pub few : asking.hart < 8
  pub text : asking.part.text < length parts.lists
  pub part : slice_get s.harts.items asking.hart ≡ Some asking.part
  pub asks : Asks (text_of (memory_held parts (slice_index_or parts.lists asking.part.text []))) asking.part.state asking.request
  pub spelled : IsSpelledBy (fetched (text_of (memory_held parts (slice_index_or parts.lists asking.part.text []))) asking.part.state.pc) asking.instr
  pub request : IsRequest asking.request

-- the next request of hart h, which is its own affair
abbrev pub IsOwnRequest : PartsView → ProgramState → ℕ → Asking → Type 0
IsOwnRequest parts s h asking = (asking.hart ≡ h) × IsAskingOf parts s asking × IsLocal (claim_in parts.claims) h asking.request

-- the part of hart h at the start: the hart ahead of its start, with nothing reserved and the text of the start
pub record IsStartPart (parts : PartsView) (h : ℕ) (part : HartPart) : Type 0 where
  pub ahead : ComesAlone (text_of (memory_held parts (slice_index_or parts.lists 0 []))) (start h) part.state
  pub ready : IsReady (text_of (memory_held parts (slice_index_or parts.lists 0 []))) part.state
  pub reserved : part.reserved ≡ None
  pub text : part.text ≡ 0

-- so of each of the first harts
pub record AreStartParts (parts : PartsView) (count : ℕ) (harts : List HartPart) : Type 0 where
  pub count_is : length harts ≡ count
  pub each : (h : ℕ) (part : HartPart) → slice_get harts h ≡ Some part → IsStartPart parts h part
