-- What is kept of a run: from where, by which schedule and to where it went, and which hart step made each event.
use Rattle.std.specs.Prelude.{◌≡◌, ◌⊎◌, ℕ, ◌+◌, ◌<◌, ◌≤◌, List, ◌∷◌, ◌++◌, All, Option, Some, None, length, replicate, slice_get}
use Rattle.hart.specs.declared.state.HartState.{HartState}
use Rattle.machine.specs.Steps.{all_steps}
use Rattle.machine.specs.declared.schedule.items.Item.{Item}
use Rattle.machine.specs.declared.schedule.items.Step.{Step}
use Rattle.machine.specs.declared.schedule.items.Step.TheVariants.{Hart, Evict}
use Rattle.store_trace.specs.declared.event.Event.{Event}
use Rattle.machine.specs.Replies.{trace_in}
use Rattle.machine.specs.Evicting.{hart_steps}
use Rattle.machine.specs.Run.{Config, RunsTo, StepsTo}
use Rattle.machine.specs.Represents.{IsRunning, MachineView, Represents}
use Rattle.machine.specs.Stops.{StopsAt}
use Rattle.machine.specs.Places.{steps_before, steps_of_item}
use Rattle.machine.specs.declared.fault.RunStop.{RunStop}
use Rattle.machine.specs.Limits.{AreOutsideLimits, AreWithinLimits}
use Rattle.machine.specs.Traced.{steps_alone}
use Rattle.machine.specs.declared.shared_memory.fault.StepFault.TheVariants.{Memory}

-- what a contract sees of a recorded run: the lines of persistent memory at the start, the cache's capacity, the schedule, the events, the
-- harts at the end, the lines that a power cut there leaves, and for each event the number of hart steps through its own
pub record RecordedView : Type 0 where
  pub start : List (List ℕ)
  pub capacity : ℕ
  pub items : List Item
  pub trace : List Event
  pub harts : List HartState
  pub left : List (List ℕ)
  pub steps : List ℕ

-- in the run from c by the steps, event i, the first being event 0, is made by the n-th hart step, the first being hart
-- step 1
pub record IsMadeBy (c : Config) (steps : List Step) (i n : ℕ) : Type 0 where
  pub before : List Step
  pub hart : ℕ
  pub after : List Step
  pub old : Config
  pub new : Config
  pub split : steps ≡ before ++ Hart hart ∷ after
  pub number : n ≡ length (hart_steps before) + 1
  pub runs : RunsTo c before old
  pub makes : StepsTo old (Hart hart) new
  pub earlier : length (trace_in old.common) ≡ i
  pub event : length (trace_in new.common) ≡ i + 1

-- each number is that of the hart step that made its event
abbrev pub AreNumbers : Config → List Step → List ℕ → Type 0
AreNumbers c steps numbers = (i n : ℕ) → slice_get numbers i ≡ Some n → IsMadeBy c steps i n

-- the hart, or the line, of a step is among as many as there are
abbrev pub IsAmong : ℕ → ℕ → Step → Type 0
IsAmong harts lines (Hart h) = h < harts
IsAmong harts lines (Evict line) = line < lines

-- what a power cut leaves of a machine with a cache of this capacity that has come to the end
pub record IsLeftAt (end : Config) (capacity : ℕ) (left : List (List ℕ)) : Type 0 where
  pub machine : MachineView
  pub represents : Represents machine end
  pub capacity_is : machine.shared.cache.cache.capacity ≡ capacity
  pub lines : left ≡ machine.shared.cache.lines

-- the run from c by the recorded schedule, each step of which is there, comes to what is recorded
pub record Records (c : Config) (recorded : RecordedView) : Type 0 where
  pub end : Config
  pub there : All (IsAmong (length recorded.harts) (length recorded.start)) (all_steps recorded.items)
  pub runs : RunsTo c (all_steps recorded.items) end
  pub harts : recorded.harts ≡ end.harts
  pub trace : recorded.trace ≡ trace_in end.common
  pub numbers : AreNumbers c (all_steps recorded.items) recorded.steps
  pub left : IsLeftAt end recorded.capacity recorded.left

-- a machine at the start c, with this number of lines, stops in the schedule: the steps before the stop are carried
-- out, by 65,536 events at most, and the next one is refused
pub record IsRefused (c : Config) (count : ℕ) (items : List Item) (stop : RunStop) : Type 0 where
  pub old : MachineView
  pub new : MachineView
  pub represents : Represents old c
  pub lines : length old.shared.cache.lines ≡ count
  pub few : length new.shared.trace ≤ 65536
  pub stops : StopsAt old new items stop

-- the next step may need room: it is that of a hart which is there, and the trace isn't full
abbrev pub MayLackRoom : Config → Option Step → Type 0
MayLackRoom c None = ⊥
MayLackRoom c (Some (Hart h)) = (h < length c.harts) × (length (trace_in c.common) < 65536)
MayLackRoom c (Some (Evict line)) = ⊥

-- a run from c is recorded up to the stop, and no further: memory was refused, or the machine refuses the next step;
-- memory is refused before the first step, for what is kept of the whole run, or for the next step
pub record StopsRecording (c : Config) (lines : ℕ) (items : List Item) (stop : RunStop) : Type 0 where
  pub reached : Config
  pub runs : RunsTo c (steps_before items stop.place.item stop.place.steps) reached
  pub reason : (stop.fault ≡ Memory) ⊎ IsRefused c lines items stop
  pub room : stop.fault ≡ Memory → ((stop.place.item ≡ 0) × (stop.place.steps ≡ 0))
      ⊎ MayLackRoom reached (slice_get (steps_of_item (slice_get items stop.place.item)) stop.place.steps)

-- a run from c is not recorded: before the first step, since a number is outside its limits; or all are within them, and it is
-- recorded up to the stop alone
abbrev pub FailsToRecord : Config → ℕ → ℕ → ℕ → List Item → RunStop → Type 0
FailsToRecord c harts capacity lines items stop =
    (AreOutsideLimits harts capacity stop.fault × (stop.place ≡ record { item = 0; steps = 0 }))
    ⊎ (AreWithinLimits harts capacity × StopsRecording c lines items stop)

-- a stop is before the first step, or before one of the schedule's
abbrev pub IsAtStep : List Item → RunStop → Type 0
IsAtStep items stop = ((stop.place.item ≡ 0) × (stop.place.steps ≡ 0))
    ⊎ ((stop.place.item < length items) × (stop.place.steps < length (steps_of_item (slice_get items stop.place.item))))

-- what is recorded is a run of steps of hart 0 alone, which runs before each of them: at its end it has stopped, or has made so many
pub record HasGoneOn (c : Config) (most : ℕ) (recorded : RecordedView) : Type 0 where
  pub made : ℕ
  pub items : recorded.items ≡ steps_alone 0 made
  pub most_made : made ≤ most
  pub ended : IsRunning (slice_get recorded.harts 0) → made ≡ most
  pub running : (k : ℕ) (d : Config) → k < made → RunsTo c (replicate k (Hart 0)) d → IsRunning (slice_get d.harts 0)
