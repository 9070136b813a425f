-- The stop point of a run: the least number of its steps after which it touched a watched line, or comes to a breakpoint.
use Rattle.std.specs.Prelude.{◌≡◌, ◌<◌, ℕ, zero, suc, List, [], Option, Some, None, IsTrue, length, slice_get, take}
use Rattle.line_memory.specs.Memory.{Memory}
use Rattle.hart.specs.Needs.{Needs}
use Rattle.hart.specs.declared.state.HartState.{HartState}
use Rattle.hart.specs.declared.state.Status.TheVariants.{Running}
use Rattle.hart.specs.declared.need.Need.TheVariants.{Ask}
use Rattle.hart.specs.declared.need.Request.{Request}
use Rattle.hart.specs.declared.need.Request.TheVariants.{Load, Store, Lr, Sc, Amo}
use Rattle.machine.specs.declared.schedule.items.Step.{Step}
use Rattle.machine.specs.declared.schedule.items.Step.TheVariants.{Hart}
use Rattle.machine.specs.Histories.{fetched_text}
use Rattle.machine.specs.Run.{Config, RunsTo, StepsTo, fetched}
use Rattle.machine.specs.Represents.{IsRunning}
use Rattle.debugger.specs.Points.{has_break, has_watch, line_start}
use Rattle.debugger.specs.declared.points.Point.{Point}
use Rattle.debugger.specs.declared.stop.Cause.{Cause}
use Rattle.debugger.specs.declared.stop.Cause.TheVariants as causes

-- the line that a request touches where it is met: that of a load, a store or an atomic access. A cache-block operation, a
-- fence and a mark touch none
abbrev pub touched_line : Request → Option ℕ
touched_line (Load address width) = Some (line_start address)
touched_line (Store address width value) = Some (line_start address)
touched_line (Lr address width) = Some (line_start address)
touched_line (Sc address width value) = Some (line_start address)
touched_line (Amo op address width operand) = Some (line_start address)
touched_line request = None

-- the text that hart h fetches
abbrev pub text_at : Config → ℕ → Memory
text_at c h = fetched_text c.common.initial h c.common.history

-- a hart of this state, which fetches from this text, runs, and its next instruction asks for an access to the line
pub record Accesses (state : Option HartState) (text : Memory) (line : ℕ) : Type 0 where
  pub hart : HartState
  pub request : Request
  pub there : state ≡ Some hart
  pub running : hart.status ≡ Running
  pub asks : Needs hart (fetched text hart.pc) (Ask request)
  pub touched : touched_line request ≡ Some line

-- it touches a watched line by a step to this other state: an access that traps touches nothing
pub record Touches (points : List Point) (state : Option HartState) (text : Memory) (other : Option HartState) (line : ℕ) : Type 0 where
  pub accesses : Accesses state text line
  pub goes_on : IsRunning other
  pub watched : IsTrue (has_watch points line)

-- a hart of this state runs, and its pc is a breakpoint
pub record IsAtBreak (points : List Point) (state : Option HartState) (pc : ℕ) : Type 0 where
  pub hart : HartState
  pub there : state ≡ Some hart
  pub running : hart.status ≡ Running
  pub here : hart.pc ≡ pc
  pub set : IsTrue (has_break points pc)

-- in the run from c by the steps, step k, the first being step 0, is of this hart and touches the watched line
pub record TouchesAt (points : List Point) (c : Config) (steps : List Step) (k : ℕ) (hart line : ℕ) : Type 0 where
  pub before : Config
  pub after : Config
  pub runs : RunsTo c (take k steps) before
  pub step : slice_get steps k ≡ Some (Hart hart)
  pub makes : StepsTo before (Hart hart) after
  pub touches : Touches points (slice_get before.harts hart) (text_at before hart) (slice_get after.harts hart) line

-- after its step k the next step is of this hart, which runs and is at the breakpoint
pub record BreaksAfter (points : List Point) (c : Config) (steps : List Step) (k : ℕ) (hart pc : ℕ) : Type 0 where
  pub after : Config
  pub runs : RunsTo c (take (suc k) steps) after
  pub next : slice_get steps (suc k) ≡ Some (Hart hart)
  pub broken : IsAtBreak points (slice_get after.harts hart) pc

-- there is this cause to stop after step k
abbrev pub HasCause : List Point → Config → List Step → ℕ → Cause → Type 0
HasCause points c steps k (causes.Watch hart line) = TouchesAt points c steps k hart line
HasCause points c steps k (causes.Break hart pc) = BreaksAfter points c steps k hart pc
HasCause points c steps k causes.End = suc k ≡ length steps

-- of two causes after one step the lower is told
abbrev pub rank : Cause → ℕ
rank (causes.Watch hart line) = 0
rank (causes.Break hart pc) = 1
rank causes.End = 2

-- step k is the first after which there is a cause to stop, and this is the one that is told
pub record IsLeastStop (points : List Point) (c : Config) (steps : List Step) (k : ℕ) (cause : Cause) : Type 0 where
  pub here : HasCause points c steps k cause
  pub earlier : (j : ℕ) (other : Cause) → j < k → ¬ (HasCause points c steps j other)
  pub first : (other : Cause) → rank other < rank cause → ¬ (HasCause points c steps k other)

-- the run stops after this number of steps, one at least where there is one
abbrev pub IsStopPoint : List Point → Config → List Step → ℕ → Cause → Type 0
IsStopPoint points c steps zero cause = (steps ≡ []) × (cause ≡ causes.End)
IsStopPoint points c steps (suc k) cause = IsLeastStop points c steps k cause
