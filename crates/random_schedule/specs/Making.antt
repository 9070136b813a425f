-- A machine that makes the steps of a draw, with its schedule and first stores so far.
use Rattle.std.specs.Prelude.{◌≡◌, ◌⊎◌, ◌==◌, ℕ, ◌+◌, ◌<◌, ◌≤◌, List, [], ◌∷◌, ◌++◌, All, Option, Some, None, if◌then◌else◌, length, replicate, slice_get, take, true}
use Rattle.std.specs.List.{list_any}
use Rattle.std.specs.List.Sorted.{IsNonDecreasingBy}
use Rattle.random_schedule.specs.Drawing.{DrawsSteps, Stand, TakesTurns, turn_steps}
use Rattle.random_schedule.specs.Evictions.{stored_by}
use Rattle.random_schedule.specs.Interleaves.{Interleaves, line_stored, stored_lines}
use Rattle.random_schedule.specs.declared.evictions.FirstStore.{FirstStore}
use Rattle.random_schedule.specs.declared.fault.InterleaveFault.{InterleaveFault}
use Rattle.random_schedule.specs.declared.fault.InterleaveFault.TheVariants.{TraceFull, Memory}
use Rattle.machine.specs.Replies.{trace_in}
use Rattle.machine.specs.Outcomes.{HartMakesEvent}
use Rattle.machine.specs.Run.{Config, RunsTo, StepsTo}
use Rattle.machine.specs.Represents.{IsRunning, MachineView, Represents}
use Rattle.machine.specs.Stops.{is_stopped}
use Rattle.machine.specs.Grammar.{hart_steps}
use Rattle.machine.specs.Steps.{all_steps}
use Rattle.machine.specs.declared.schedule.items.Item.{Item}
use Rattle.machine.specs.declared.schedule.items.Step.{Step}
use Rattle.machine.specs.declared.schedule.items.Step.TheVariants.{Hart}
use Rattle.store_trace.specs.declared.event.Event.{Event}

-- what a contract sees of it
pub record MakingView : Type 0 where
  pub machine : MachineView
  pub items : List Item
  pub made : ℕ
  pub stores : List FirstStore

-- the line that an event stores to, if there is one that does
abbrev pub line_at : Option Event → Option ℕ
line_at None = None
line_at (Some event) = line_stored event

-- first stores, and that of a line by a step, unless the line has one
abbrev pub with_store : ℕ → List FirstStore → Option ℕ → List FirstStore
with_store step stores None = stores
with_store step stores (Some line) =
    if list_any (λ store. store.line == line) stores then stores else stores ++ record { step = step; line = line } ∷ []

-- the first stores of the run from c by these steps
abbrev pub AreFirstStores : Config → List Step → List FirstStore → Type 0
AreFirstStores c steps stores = (k : ℕ) (d : Config) → k ≤ length steps → RunsTo c (take k steps) d →
    stored_lines (trace_in d.common) ≡ stored_by k stores

-- its parts agree: as many steps are in the schedule as were made, and the first stores are among them, in order
pub record Agrees (making : MakingView) : Type 0 where
  pub count : hart_steps making.items ≡ making.made
  pub ascending : IsNonDecreasingBy (λ store. store.step) making.stores
  pub within : All (λ store. store.step ≤ making.made) making.stores

-- from c it has made these steps to the end
pub record HasMade (c : Config) (steps : List Step) (end : Config) (making : MakingView) : Type 0 where
  pub runs : Interleaves c steps end
  pub represents : Represents making.machine end
  pub items : all_steps making.items ≡ steps
  pub made : making.made ≡ length steps
  pub stores : AreFirstStores c steps making.stores
  pub agrees : Agrees making

-- it has gone on by these steps, after whatever it had made
pub record Continues (old new : MakingView) (steps : List Step) : Type 0 where
  pub made : new.made ≡ old.made + length steps
  pub agrees : Agrees old → Agrees new
  pub goes : (c end : Config) (past : List Step) → HasMade c past end old →
      (d : Config) × Interleaves end steps d × HasMade c (past ++ steps) d new

-- it has gone on by those of so many steps of hart h up to the one that stops it
pub record MakesSteps (old new : MakingView) (h count : ℕ) : Type 0 where
  pub made : ℕ
  pub some : 0 < made
  pub few : made ≤ count
  pub continues : Continues old new (replicate made (Hart h))
  pub all : (made ≡ count) ⊎ (is_stopped (slice_get new.machine.harts h) ≡ true)

-- the next step of hart h, which runs, would make event 65,537
pub record IsFull (machine : MachineView) (h : ℕ) : Type 0 where
  pub running : IsRunning (slice_get machine.harts h)
  pub harts : length machine.harts ≤ 8
  pub event : HartMakesEvent machine h
  pub full : length machine.shared.trace ≡ 65536

-- the next step of hart h, which runs, leaves 65,536 events at most
pub record HasRoom (machine : MachineView) (h : ℕ) : Type 0 where
  pub running : IsRunning (slice_get machine.harts h)
  pub goes : (c : Config) → Represents machine c → (after : Config) × StepsTo c (Hart h) after × (length (trace_in after.common) ≤ 65536)

-- why a machine doesn't make the next step of hart h, or it isn't kept: the trace is full, or memory was refused where it isn't
abbrev pub IsHeld : MachineView → ℕ → InterleaveFault → Type 0
IsHeld machine h TraceFull = IsFull machine h
IsHeld machine h Memory = HasRoom machine h

-- of so many steps of hart h fewer were made, and the next one is held
pub record IsHeldAmong (old : MakingView) (h count : ℕ) (fault : InterleaveFault) : Type 0 where
  pub made : ℕ
  pub fewer : made < count
  pub at : MakingView
  pub continues : Continues old at (replicate made (Hart h))
  pub held : IsHeld at.machine h fault

-- it has taken the turns that a seed draws, up to this state of the generator
pub record HasTaken (c : Config) (seed limit : ℕ) (making : MakingView) (state : ℕ) : Type 0 where
  pub turns : List (ℕ × ℕ)
  pub end : Config
  pub left : ℕ
  pub taken : TakesTurns (record { config = c; state = seed; left = limit }) turns (record { config = end; state = state; left = left })
  pub made : HasMade c (turn_steps turns) end making
  pub all : left + making.made ≡ limit

-- from c, whose trace is empty, the steps that a seed draws up to this state of the generator are made, and are those of the
-- items, with these first stores among them
pub record HasDrawn (c : Config) (seed limit : ℕ) (items : List Item) (made : ℕ) (stores : List FirstStore) (state : ℕ) : Type 0 where
  pub steps : List Step
  pub end : Stand
  pub begins : trace_in c.common ≡ []
  pub drawn : DrawsSteps c seed limit steps end
  pub state_is : end.state ≡ state
  pub runs : Interleaves c steps end.config
  pub all : all_steps items ≡ steps
  pub count : made ≡ length steps
  pub harts : hart_steps items ≡ made
  pub left : end.left + made ≡ limit
  pub first : AreFirstStores c steps stores
  pub ascending : IsNonDecreasingBy (λ store. store.step) stores
  pub within : All (λ store. store.step ≤ made) stores
