-- Steps of one hart in a row, of which the last one alone may make an event.
use Rattle.std.specs.Prelude.{◌≡◌, ◌⊎◌, ◌+◌, ◌<◌, ◌≤◌, ◌++◌, ℕ, zero, suc, [], ◌∷◌, Option, Some, None, false, length, replicate, slice_get}
use Rattle.hart.specs.Needs.{IsSpelledBy, Needs}
use Rattle.hart.specs.Requests.{IsRequest}
use Rattle.hart.specs.declared.need.Need.TheVariants.{Ask, Local}
use Rattle.hart.specs.declared.need.Request.{Request}
use Rattle.hart.specs.declared.state.HartState.{HartState}
use Rattle.hart.specs.declared.state.Status.TheVariants.{Running}
use Rattle.isa_table.specs.declared.instruction.Instr.{Instr}
use Rattle.line_memory.specs.Memory.{Memory}
use Rattle.machine.specs.Histories.{is_renewing}
use Rattle.machine.specs.Run.{Config, RunsTo, fetched}
use Rattle.machine.specs.Represents.{Answers, IsRunning, MachineView, Represents, RunsBoth}
use Rattle.machine.specs.declared.rows.Answered.{Answered}
use Rattle.machine.specs.declared.rows.Answered.TheVariants as answers
use Rattle.machine.specs.declared.schedule.items.Step.TheVariants.{Hart}
use Rattle.machine.specs.SharedView.{SharedView}
use Rattle.store_trace.specs.declared.event.Event.{Event}

-- hart h runs before each of so many steps of its own
abbrev pub RunsBeforeEach : MachineView → ℕ → ℕ → Type 0
RunsBeforeEach machine h steps =
    (k : ℕ) (c d : Config) → k < steps → Represents machine c → RunsTo c (replicate k (Hart h)) d → IsRunning (slice_get d.harts h)

-- hart h, whose state is s, is answered what its instruction asks for by the text that it fetches, which is no FENCE.I
pub record IsAnswered (text : Memory) (h : ℕ) (s t : HartState) (old new : SharedView) : Type 0 where
  pub instr : Instr
  pub request : Request
  pub width : IsRequest request
  pub kept : is_renewing request ≡ false
  pub needs : Needs s (fetched text s.pc) (Ask request)
  pub spelled : IsSpelledBy (fetched text s.pc) instr
  pub answers : Answers old new h s instr request t

-- a step of the running hart h, by the text that it fetches: it asks nothing of memory, or is answered
pub record IsStepOf (text : Memory) (h : ℕ) (s t : HartState) (old new : SharedView) : Type 0 where
  pub running : s.status ≡ Running
  pub made : (Needs s (fetched text s.pc) (Local t) × (new ≡ old)) ⊎ IsAnswered text h s t old new

-- so many of them
abbrev pub AreStepsOf : Memory → ℕ → ℕ → HartState → HartState → SharedView → SharedView → Type 0
AreStepsOf text h zero s t old new = (t ≡ s) × (new ≡ old)
AreStepsOf text h (suc n) s t old new =
    (middle : HartState) × (between : SharedView) × AreStepsOf text h n s middle old between × IsStepOf text h middle t between new

-- the trace has one event more
pub record IsLonger (old new : SharedView) : Type 0 where
  pub event : Event
  pub trace : new.trace ≡ old.trace ++ event ∷ []
  pub few : length new.trace ≤ 65536

-- what came of the request of hart h's instruction: it isn't answered, or is answered without an event, or with one
abbrev pub IsAnswer : Answered → ℕ → HartState → HartState → SharedView → SharedView → Instr → Request → Type 0
IsAnswer answers.Not h s t old new instr request = (t ≡ s) × (new ≡ old)
IsAnswer answers.Quietly h s t old new instr request =
    Answers old new h s instr request t × (is_renewing request ≡ false) × (new.trace ≡ old.trace)
IsAnswer answers.WithEvent h s t old new instr request = Answers old new h s instr request t × (is_renewing request ≡ false) × IsLonger old new

-- n steps of hart h, of which the last one alone makes an event, before which its pc is this
pub record EndsByEvent (text : Memory) (h n pc : ℕ) (s t : HartState) (old new : SharedView) : Type 0 where
  pub quiet : ℕ
  pub middle : HartState
  pub between : SharedView
  pub all : n ≡ quiet + 1
  pub before : AreStepsOf text h quiet s middle old between
  pub same : between.trace ≡ old.trace
  pub last : IsStepOf text h middle t between new
  pub pc_is : pc ≡ middle.pc
  pub longer : IsLonger between new

-- n steps of hart h, of which the last one makes an event where there is a pc before it, and else none
abbrev pub IsRow : Memory → ℕ → ℕ → Option ℕ → HartState → HartState → SharedView → SharedView → Type 0
IsRow text h n None s t old new = AreStepsOf text h n s t old new × (new.trace ≡ old.trace)
IsRow text h n (Some pc) s t old new = EndsByEvent text h n pc s t old new

-- the same of a machine
pub record EndsByEventOf (old : MachineView) (h n pc : ℕ) (new : MachineView) : Type 0 where
  pub quiet : ℕ
  pub middle : MachineView
  pub state : HartState
  pub all : n ≡ quiet + 1
  pub before : RunsBoth old middle (replicate quiet (Hart h))
  pub same : middle.shared.trace ≡ old.shared.trace
  pub last : RunsBoth middle new (Hart h ∷ [])
  pub there : slice_get middle.harts h ≡ Some state
  pub pc_is : pc ≡ state.pc
  pub longer : IsLonger middle.shared new.shared

abbrev pub IsRowOf : MachineView → ℕ → ℕ → Option ℕ → MachineView → Type 0
IsRowOf old h n None new = new.shared.trace ≡ old.shared.trace
IsRowOf old h n (Some pc) new = EndsByEventOf old h n pc new
