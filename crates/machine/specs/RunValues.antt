-- A run by a schedule, as a value: what it starts from, how it goes, and what it makes.
use Rattle.std.specs.Prelude.{◌≡◌, ℕ, ◌^◌, ◌<◌, ◌≤◌, List, All, length}
use Rattle.hart.specs.declared.state.HartState.{HartState}
use Rattle.machine.specs.Left.{IsLeftBy}
use Rattle.machine.specs.Run.{Config, started}
use Rattle.program.specs.Sections.{Sections}
use Rattle.machine.specs.Recorded.{IsAmong, RecordedView, Records}
use Rattle.machine.specs.declared.recording.setup.Setup.{Setup}
use Rattle.machine.specs.Traced.{TracedRun}
use Rattle.machine.specs.declared.run_trace.traced_event.TracedEvent.{TracedEvent}
use Rattle.machine.specs.Grammar.{hart_steps}
use Rattle.machine.specs.Steps.{all_steps}
use Rattle.machine.specs.declared.schedule.items.Item.{Item}
use Rattle.machine.specs.declared.schedule.items.Step.{Step}
use Rattle.machine.specs.Limits.{AreWithinLimits}
use Rattle.machine.specs.Replies.{trace_in}
use Rattle.store_trace.specs.declared.event.Event.{Event}

abbrev pub setup : Sections → List (List ℕ) → ℕ → ℕ → Setup
setup program medium harts capacity = record { program = program; medium = medium; harts = harts; capacity = capacity }

-- with a cache of as many lines as the medium has
abbrev pub with_room : Sections → List (List ℕ) → ℕ → Setup
with_room program medium harts = setup program medium harts (length medium)

-- where its Run begins
abbrev pub start_of : Setup → Config
start_of s = started s.program s.medium s.harts

-- one to eight harts, and 1 to 16,384 lines of cache
abbrev pub IsWithin : Setup → Type 0
IsWithin s = AreWithinLimits s.harts s.capacity

-- the hart, or the line, of each step is there
abbrev pub AreThere : Setup → List Step → Type 0
AreThere s steps = All (IsAmong s.harts (length s.medium)) steps

-- these lines are what a power cut leaves after the schedule: the medium behind the one cache, of the setup's capacity, that all
-- requests and evictions of the run leave
abbrev pub IsLeftOf : Setup → List Item → List (List ℕ) → Type 0
IsLeftOf s schedule lines = IsLeftBy (start_of s) (all_steps schedule) s.capacity lines

-- what a contract sees of a run: its setup and its schedule, the events, each event with the hart step that made it and the pc before that
-- step, the harts at the end, and the lines that a power cut there leaves
pub record RunView : Type 0 where
  pub setup : Setup
  pub schedule : List Item
  pub events : List Event
  pub traced : List TracedEvent
  pub harts : List HartState
  pub left : List (List ℕ)

-- it is a run: from its setup by its schedule, each step of which is there, the machine comes to what the value holds, by 65,536 events at
-- most
pub record IsRun (run : RunView) : Type 0 where
  pub within : IsWithin run.setup
  pub few_steps : hart_steps run.schedule < 2 ^ 32
  pub there : AreThere run.setup (all_steps run.schedule)
  pub end : Config
  pub traced : TracedRun 0 (start_of run.setup) (all_steps run.schedule) end run.traced
  pub events : run.events ≡ trace_in end.common
  pub few : length run.events ≤ 65536
  pub harts : run.harts ≡ end.harts
  pub left : IsLeftOf run.setup run.schedule run.left

-- the run that a record is of
abbrev pub run_of : Sections → RecordedView → List TracedEvent → RunView
run_of program recorded traced = record {
  setup = setup program recorded.start (length recorded.harts) recorded.capacity;
  schedule = recorded.items;
  events = recorded.trace;
  traced = traced;
  harts = recorded.harts;
  left = recorded.left;
}

-- a record of the run: the same start, schedule, events, harts at the end and lines that are left
pub record IsRecordOf (run : RunView) (recorded : RecordedView) : Type 0 where
  pub start : recorded.start ≡ run.setup.medium
  pub capacity : recorded.capacity ≡ run.setup.capacity
  pub items : recorded.items ≡ run.schedule
  pub trace : recorded.trace ≡ run.events
  pub harts : recorded.harts ≡ run.harts
  pub left : recorded.left ≡ run.left
  pub records : Records (start_of run.setup) recorded
