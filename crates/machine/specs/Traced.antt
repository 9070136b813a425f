-- A run with its events told one by one: which hart step made each, and the pc that its hart had before that step.
use Rattle.std.specs.Prelude.{◌≡◌, ◌⊎◌, ℕ, ◌+◌, ◌<◌, ◌≤◌, List, [], ◌∷◌, ◌++◌, All, Option, Some, None, length, map, slice_get, zip}
use Rattle.hart.specs.declared.state.HartState.{HartState}
use Rattle.machine.specs.Replies.{trace_in}
use Rattle.machine.specs.Run.{Config, StepsTo}
use Rattle.machine.specs.Represents.{MachineView, Runs, RunsExactly, Represents}
use Rattle.machine.specs.Stops.{StopsAt}
use Rattle.machine.specs.declared.fault.RunStop.{RunStop}
use Rattle.machine.specs.declared.run_trace.traced_event.EventPlace.{EventPlace}
use Rattle.machine.specs.declared.run_trace.traced_event.TracedEvent.{TracedEvent}
use Rattle.machine.specs.Places.{steps_before, steps_of_item}
use Rattle.machine.specs.declared.schedule.items.Item.{Item}
use Rattle.machine.specs.declared.schedule.items.Item.TheVariants as items
use Rattle.machine.specs.declared.schedule.items.Step.{Step}
use Rattle.machine.specs.declared.schedule.items.Step.TheVariants.{Hart, Evict}
use Rattle.machine.specs.declared.shared_memory.fault.StepFault.TheVariants.{Memory}
use Rattle.store_trace.specs.declared.event.Event.{Event}

abbrev pub events_in : List TracedEvent → List Event
events_in traced = map (λ t. t.event) traced

abbrev pub place_of : TracedEvent → EventPlace
place_of t = record { step = t.step; pc = t.pc }

abbrev pub places_in : List TracedEvent → List EventPlace
places_in traced = map place_of traced

-- an event with its place
abbrev pub with_place : EventPlace × Event → TracedEvent
with_place both = record { step = both.0.step; pc = both.0.pc; event = both.1 }

-- events, each with its place
abbrev pub with_places : List EventPlace → List Event → List TracedEvent
with_places places events = map with_place (zip places events)

-- the number of hart steps, those up to and with a step, of which so many come before it
abbrev pub passed : ℕ → Step → ℕ
passed n (Hart h) = n + 1
passed n (Evict line) = n

-- the pc, before a step, of the hart that makes it
abbrev pub IsPcBefore : Config → Step → ℕ → Type 0
IsPcBefore c (Hart h) pc = (s : HartState) × (slice_get c.harts h ≡ Some s) × (pc ≡ s.pc)
IsPcBefore c (Evict line) pc = ⊥

-- a step, after n hart steps, from c to d, and the events that it makes
pub record TracedStep (n : ℕ) (c : Config) (step : Step) (d : Config) (traced : List TracedEvent) : Type 0 where
  pub steps : StepsTo c step d
  pub events : trace_in d.common ≡ trace_in c.common ++ events_in traced
  pub numbers : All (λ t. t.step ≡ passed n step) traced
  pub pcs : All (λ t. IsPcBefore c step t.pc) traced

-- the run from c by these steps, after n hart steps, to the end, and the events that it makes
abbrev pub TracedRun : ℕ → Config → List Step → Config → List TracedEvent → Type 0
TracedRun n c [] end traced = (end ≡ c) × (traced ≡ [])
TracedRun n c (step ∷ steps) end traced =
    (d : Config) × (here : List TracedEvent) × (others : List TracedEvent) × (traced ≡ here ++ others)
    × TracedStep n c step d here × TracedRun (passed n step) d steps end others

-- what a machine's run by these steps makes, each of which is there: the machine after them, with 65,536 events at most, and the
-- places of the events
pub record Traces (old new : MachineView) (steps : List Step) (places : List EventPlace) : Type 0 where
  pub runs : Runs old new steps
  pub exact : RunsExactly old new steps
  pub few : length new.shared.trace ≤ 65536
  pub traces : (c : Config) → Represents old c → (d : Config) × (traced : List TracedEvent) × TracedRun 0 c steps d traced
      × (places ≡ places_in traced) × Represents new d

-- the machine makes the steps before one of the schedule's, by 65,536 events in its trace at most, and refuses that one
pub record IsRefusedAt (old : MachineView) (items : List Item) (stop : RunStop) : Type 0 where
  pub new : MachineView
  pub few : length new.shared.trace ≤ 65536
  pub stops : StopsAt old new items stop

-- a step takes memory: it is that of a hart which is there, and the trace isn't full
abbrev pub TakesMemory : MachineView → Option Step → Type 0
TakesMemory machine None = ⊥
TakesMemory machine (Some (Hart h)) = (h < length machine.harts) × (length machine.shared.trace < 65536)
TakesMemory machine (Some (Evict line)) = ⊥

-- the machine makes the steps before one of the schedule's, and that one takes memory
pub record LacksMemoryAt (old : MachineView) (items : List Item) (stop : RunStop) : Type 0 where
  pub new : MachineView
  pub item : stop.place.item < length items
  pub steps : stop.place.steps < length (steps_of_item (slice_get items stop.place.item))
  pub runs : Runs old new (steps_before items stop.place.item stop.place.steps)
  pub takes : TakesMemory new (slice_get (steps_of_item (slice_get items stop.place.item)) stop.place.steps)

-- a run isn't traced to its end: memory was refused for a step that takes some, or the machine refuses a step
abbrev pub StopsTracing : MachineView → List Item → RunStop → Type 0
StopsTracing old items stop = ((stop.fault ≡ Memory) × LacksMemoryAt old items stop) ⊎ IsRefusedAt old items stop

-- the schedule of so many steps of one hart
abbrev pub steps_alone : ℕ → ℕ → List Item
steps_alone h steps = items.Steps h steps ∷ []
