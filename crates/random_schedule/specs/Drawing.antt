-- How the schedule of a run is drawn from a seed.
use Rattle.std.specs.Prelude.{◌≡◌, ◌⊎◌, ◌↔◌, ℕ, ◌+◌, ◌-◌, ◌<◌, ◌≤◌, List, [], ◌∷◌, Some, length, min, replicate, slice_get, take, true}
use Rattle.std.specs.List.{flat_map}
use Rattle.random_schedule.specs.Evictions.{InTurn}
use Rattle.random_schedule.specs.Interleaves.{Interleaves, running, stored_lines}
use Rattle.random_schedule.specs.SplitMix.{below, next_state}
use Rattle.random_schedule.specs.Weaving.{with_evictions}
use Rattle.random_schedule.specs.declared.evictions.Eviction.{Eviction}
use Rattle.random_schedule.specs.declared.fault.InterleaveFault.{InterleaveFault}
use Rattle.random_schedule.specs.declared.fault.InterleaveFault.TheVariants.{TraceFull, Memory}
use Rattle.machine.specs.Replies.{trace_in}
use Rattle.machine.specs.Run.{Config, RunsTo, StepsTo}
use Rattle.machine.specs.Represents.{IsRunning}
use Rattle.machine.specs.Stops.{is_stopped}
use Rattle.machine.specs.Steps.{all_steps}
use Rattle.machine.specs.declared.schedule.items.Item.{Item}
use Rattle.machine.specs.declared.schedule.items.Step.{Step}
use Rattle.machine.specs.declared.schedule.items.Step.TheVariants.{Hart}

-- where a draw stands: what the run has come to, the generator's state, and how many steps may still be made
pub record Stand : Type 0 where
  pub config : Config
  pub state : ℕ
  pub left : ℕ

-- of so many steps of hart h those up to the one that stops it
pub record MakesUpTo (c : Config) (h count made : ℕ) (d : Config) : Type 0 where
  pub few : made ≤ count
  pub runs : Interleaves c (replicate made (Hart h)) d
  pub all : (made ≡ count) ⊎ (is_stopped (slice_get d.harts h) ≡ true)

-- how many steps a turn has, before the hart stops
abbrev pub drawn_steps : ℕ → ℕ → ℕ
drawn_steps state left = min (1 + below 16 state) left

-- a turn: one of the harts that run is drawn, and then its number of steps
pub record TakesTurn (p : Stand) (h made : ℕ) (q : Stand) : Type 0 where
  pub some : 0 < p.left
  pub hart : slice_get (running p.config.harts) (below (length (running p.config.harts)) p.state) ≡ Some h
  pub makes : MakesUpTo p.config h (drawn_steps (next_state p.state) p.left) made q.config
  pub state : q.state ≡ next_state (next_state p.state)
  pub left : q.left + made ≡ p.left

-- turns, each of a hart with its number of steps
abbrev pub TakesTurns : Stand → List (ℕ × ℕ) → Stand → Type 0
TakesTurns p [] q = q ≡ p
TakesTurns p (turn ∷ turns) q = (r : Stand) × TakesTurn p turn.0 turn.1 r × TakesTurns r turns q

abbrev pub turn_steps : List (ℕ × ℕ) → List Step
turn_steps turns = flat_map (λ turn. replicate turn.1 (Hart turn.0)) turns

-- the turns that are drawn from a seed, until no hart runs or so many steps are made
pub record DrawsSteps (c : Config) (seed limit : ℕ) (steps : List Step) (end : Stand) : Type 0 where
  pub turns : List (ℕ × ℕ)
  pub taken : TakesTurns (record { config = c; state = seed; left = limit }) turns end
  pub made : steps ≡ turn_steps turns
  pub over : (running end.config.harts ≡ []) ⊎ (end.left ≡ 0)

-- by step n of the run from c, and no earlier one, a line is stored
abbrev pub StoresFirstAt : Config → List Step → ℕ → Type 0
StoresFirstAt c steps n = (n ≤ length steps) × ((k : ℕ) (d : Config) → k ≤ length steps → RunsTo c (take k steps) d →
    (n ≤ k) ↔ (0 < length (stored_lines (trace_in d.common))))

-- an eviction that is drawn from this state of the generator: first its step, from the first store's on, and then its line,
-- by its number among those stored by then
pub record DrawsEviction (c : Config) (steps : List Step) (first state : ℕ) (eviction : Eviction) : Type 0 where
  pub step : eviction.step ≡ first + below (length steps - first + 1) state
  pub within : eviction.step ≤ length steps
  pub there : Config
  pub runs : RunsTo c (take eviction.step steps) there
  pub line : slice_get (stored_lines (trace_in there.common)) (below (length (stored_lines (trace_in there.common))) (next_state state)) ≡ Some eviction.line

-- evictions that are drawn for the run from c by these steps, by numbers from this state on: none where no line is stored
abbrev pub DrawsEvictions : Config → List Step → Stand → ℕ → List Eviction → Type 0
DrawsEvictions c steps end count evictions = ((stored_lines (trace_in end.config.common) ≡ []) × (evictions ≡ []))
    ⊎ ((first : ℕ) × (last : ℕ) × StoresFirstAt c steps first × InTurn (DrawsEviction c steps first) end.state evictions last × (length evictions ≡ count))

-- the schedule that a seed draws for the run from c
pub record IsDrawn (c : Config) (seed limit count : ℕ) (items : List Item) : Type 0 where
  pub steps : List Step
  pub end : Stand
  pub evictions : List Eviction
  pub turns : DrawsSteps c seed limit steps end
  pub evicts : DrawsEvictions c steps end count evictions
  pub woven : all_steps items ≡ with_evictions 0 evictions steps

-- a step that the draw comes to, in a turn of a hart that still runs: the run is there after it
pub record ComesTo (c : Config) (seed limit : ℕ) (after : Config) : Type 0 where
  pub turns : List (ℕ × ℕ)
  pub stand : Stand
  pub taken : TakesTurns (record { config = c; state = seed; left = limit }) turns stand
  pub hart : ℕ
  pub drawn : slice_get (running stand.config.harts) (below (length (running stand.config.harts)) stand.state) ≡ Some hart
  pub made : ℕ
  pub more : made < drawn_steps (next_state stand.state) stand.left
  pub before : Config
  pub runs : Interleaves stand.config (replicate made (Hart hart)) before
  pub running : IsRunning (slice_get before.harts hart)
  pub step : StepsTo before (Hart hart) after

-- why no schedule is drawn: a step that the draw comes to makes event 65,537, or memory was refused, at a step that doesn't or
-- when all steps were drawn
abbrev pub StopsDrawing : Config → ℕ → ℕ → InterleaveFault → Type 0
StopsDrawing c seed limit TraceFull = (after : Config) × ComesTo c seed limit after × (length (trace_in after.common) ≡ 65537)
StopsDrawing c seed limit Memory = ((after : Config) × ComesTo c seed limit after × (length (trace_in after.common) ≤ 65536))
    ⊎ ((steps : List Step) × (end : Stand) × DrawsSteps c seed limit steps end)
