-- Runs of a program by a schedule, over a medium that is given.
use Rattle.std.specs.Prelude.{◌≡◌, ◌⊎◌, ℕ, ◌<◌, ◌≤◌, List, Some, length, slice_get}
use Rattle.bus.specs.Limits.{AreWithin, RefusesStart}
use Rattle.bus.specs.Together.{count_of}
use Rattle.bus.specs.declared.finish_fault.FinishFault.{FinishFault}
use Rattle.bus.specs.declared.finish_fault.FinishFault.TheVariants as finish
use Rattle.hart.specs.declared.state.HartState.{HartState}
use Rattle.hart.specs.declared.state.Status.TheVariants.{Running}
use Rattle.machine.specs.Refusals.{RefusesNext}
use Rattle.machine.specs.Run.{Config, RunsTo}
use Rattle.machine.specs.Represents.{IsRunning, MachineView, Represents}
use Rattle.machine.specs.Recorded.{RecordedView, Records}
use Rattle.machine.specs.RunValues.{AreThere, IsRun, IsWithin, RunView, start_of}
use Rattle.machine.specs.declared.recording.setup.Setup.{Setup}
use Rattle.machine.specs.Places.{steps_before, steps_of_item}
use Rattle.machine.specs.Steps.{all_steps}
use Rattle.machine.specs.declared.schedule.items.Item.{Item}
use Rattle.machine.specs.declared.schedule.items.Step.{Step}
use Rattle.machine.specs.Limits.{AreOutsideLimits}
use Rattle.machine.specs.Replies.{trace_in}
use Rattle.machine.specs.declared.shared_memory.fault.StepFault.{StepFault}
use Rattle.machine.specs.declared.shared_memory.fault.StepFault.TheVariants.{NoSuchHart, NoSuchLine, TraceFull, Memory, OutOfLimits}
use Rattle.crash_test.specs.declared.runs.TogetherFault.{TogetherFault}
use Rattle.crash_test.specs.declared.runs.TogetherFault.TheVariants as together

-- no machine is made: the number of harts is outside its limits, or else that of the cache's lines
abbrev pub IsOutside : Setup → StepFault → Type 0
IsOutside s fault = AreOutsideLimits s.harts s.capacity fault

-- a machine of the setup that has made no step
pub record IsAtStart (s : Setup) (machine : MachineView) : Type 0 where
  pub within : IsWithin s
  pub represents : Represents machine (start_of s)
  pub lines : machine.shared.cache.lines ≡ s.medium
  pub capacity : machine.shared.cache.cache.capacity ≡ s.capacity

-- a machine that represents what these steps, each of which is there, make of the start: 65,536 events at most
pub record HasMade (s : Setup) (steps : List Step) (machine : MachineView) : Type 0 where
  pub within : IsWithin s
  pub there : AreThere s steps
  pub end : Config
  pub run : RunsTo (start_of s) steps end
  pub represents : Represents machine end
  pub lines : length machine.shared.cache.lines ≡ length s.medium
  pub few : length machine.shared.trace ≤ 65536

-- the machine of a setup that has carried out a schedule
pub record HasRun (s : Setup) (schedule : List Item) (machine : MachineView) : Type 0 where
  pub has_made : HasMade s (all_steps schedule) machine
  pub capacity : machine.shared.cache.cache.capacity ≡ s.capacity

-- the run by a schedule of this setup
pub record IsRunBy (s : Setup) (schedule : List Item) (run : RunView) : Type 0 where
  pub setup_is : run.setup ≡ s
  pub schedule_is : run.schedule ≡ schedule
  pub is_run : IsRun run

-- a machine that has made the steps before one of the schedule's refuses that step, for this reason
pub record RefusesStep (s : Setup) (schedule : List Item) (fault : StepFault) : Type 0 where
  pub machine : MachineView
  pub item : ℕ
  pub steps : ℕ
  pub has_made : HasMade s (steps_before schedule item steps) machine
  pub refused : RefusesNext machine (slice_get (steps_of_item (slice_get schedule item)) steps) fault

-- why there is no run by the schedule: no machine is made, or one refuses a step
abbrev pub IsRefused : Setup → List Item → StepFault → Type 0
IsRefused s schedule fault = IsOutside s fault ⊎ RefusesStep s schedule fault

-- what a fault says of the run: memory was refused, or there is no such run
abbrev pub FailsToRun : Setup → List Item → StepFault → Type 0
FailsToRun s schedule fault = (fault ≡ Memory) ⊎ IsRefused s schedule fault

-- each hart that still runs at the end has made all its steps of the schedule
abbrev pub HaveMadeAll : ℕ → RecordedView → Type 0
HaveMadeAll steps recorded = (h : ℕ) (state : HartState) → slice_get recorded.harts h ≡ Some state → state.status ≡ Running
    → count_of h (all_steps recorded.items) ≡ steps

-- no hart has made more steps of the schedule than so many
abbrev pub HaveMadeAtMost : ℕ → RecordedView → Type 0
HaveMadeAtMost steps recorded = (h : ℕ) (state : HartState) → slice_get recorded.harts h ≡ Some state
    → count_of h (all_steps recorded.items) ≤ steps

-- harts that have run together, none of them for more steps than so many, to what is recorded: one run of the setup, at whose
-- end each hart has stopped or has made all its steps
pub record HasRunTogether (s : Setup) (steps : ℕ) (recorded : RecordedView) : Type 0 where
  pub within : IsWithin s
  pub some_steps : 1 ≤ steps
  pub few_steps : steps ≤ 500000000
  pub start : recorded.start ≡ s.medium
  pub capacity : recorded.capacity ≡ s.capacity
  pub count : length recorded.harts ≡ s.harts
  pub records : Records (start_of s) recorded
  pub most : HaveMadeAtMost steps recorded
  pub ended : HaveMadeAll steps recorded

-- what is recorded is what comes of its schedule: a machine that has carried it out leaves the lines that are recorded, and any
-- such machine has the harts and the events that are
pub record IsRunOf (s : Setup) (recorded : RecordedView) : Type 0 where
  pub machine : MachineView
  pub has_run : HasRun s recorded.items machine
  pub left : recorded.left ≡ machine.shared.cache.lines
  pub replayed : (other : MachineView) → HasRun s recorded.items other
      → (other.harts ≡ recorded.harts) × (other.shared.trace ≡ recorded.trace)

-- the harts make a run of the setup that has as many events as a trace may have, in which none makes more steps than so many;
-- and one of them would go on
pub record FillsTrace (s : Setup) (steps : ℕ) : Type 0 where
  pub made : List Step
  pub end : Config
  pub run : RunsTo (start_of s) made end
  pub full : length (trace_in end.common) ≡ 65536
  pub most : (h : ℕ) → h < s.harts → count_of h made ≤ steps
  pub hart : ℕ
  pub running : IsRunning (slice_get end.harts hart)
  pub left : count_of hart made < steps

-- why harts are stopped before their end: they fill the trace; or a growth or a thread is refused, which it may always be
abbrev pub StopsHarts : Setup → ℕ → StepFault → Type 0
StopsHarts s steps NoSuchHart = ⊥
StopsHarts s steps NoSuchLine = ⊥
StopsHarts s steps TraceFull = FillsTrace s steps
StopsHarts s steps Memory = Unit {0}
StopsHarts s steps OutOfLimits = ⊥

-- why harts haven't run together: a number is outside its limits, or a growth was refused at the start; or all numbers are within
-- their limits, and the harts are stopped, or what they made doesn't agree
abbrev pub FailsTogether : Setup → ℕ → TogetherFault → Type 0
FailsTogether s steps (together.Step fault) =
    RefusesStart s.harts s.capacity steps fault ⊎ (AreWithin s.harts s.capacity steps × StopsHarts s steps fault)
FailsTogether s steps together.Foreign = AreWithin s.harts s.capacity steps

-- what is told of seats that aren't gathered, none of which lacks or has another hart's number
abbrev pub IsUnfinished : FinishFault → Type 0
IsUnfinished finish.SeatMissing = ⊥
IsUnfinished finish.SeatNumber = ⊥
IsUnfinished finish.Foreign = Unit {0}
IsUnfinished finish.Memory = Unit {0}

abbrev pub unfinished_of : FinishFault → TogetherFault
unfinished_of finish.Memory = together.Step Memory
unfinished_of fault = together.Foreign
