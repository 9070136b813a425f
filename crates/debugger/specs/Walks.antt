-- Steps that a debugger makes without a cause to stop, and how it halts at one.
use Rattle.std.specs.Prelude.{◌≡◌, ℕ, List, [], ◌∷◌, Option, Some, None, IsTrue, slice_get}
use Rattle.line_memory.specs.Memory.{Memory}
use Rattle.hart.specs.declared.state.HartState.{HartState}
use Rattle.machine.specs.declared.schedule.items.Step.{Step}
use Rattle.machine.specs.declared.schedule.items.Step.TheVariants.{Hart}
use Rattle.machine.specs.Refusals.{Refuses}
use Rattle.machine.specs.Run.{Config, StepsTo}
use Rattle.machine.specs.declared.machine.Outcome.{Outcome}
use Rattle.machine.specs.declared.machine.Outcome.TheVariants.{Done}
use Rattle.machine.specs.Represents.{MachineView, Runs, Represents, copy_of}
use Rattle.debugger.specs.Points.{DebuggerView, has_watch}
use Rattle.debugger.specs.StopPoint.{Accesses, IsAtBreak, Touches, text_at}
use Rattle.debugger.specs.declared.points.Point.{Point}
use Rattle.debugger.specs.declared.stop.Cause.{Cause}
use Rattle.debugger.specs.declared.stop.Cause.TheVariants as causes
use Rattle.debugger.specs.declared.stop.Halt.{Halt}
use Rattle.debugger.specs.declared.stop.Halt.TheVariants as halts

-- the line that a hart of this state asks for an access to, if it does
abbrev pub AsksFor : Option HartState → Memory → Option ℕ → Type 0
AsksFor state text None = (line : ℕ) → ¬ (Accesses state text line)
AsksFor state text (Some line) = Accesses state text line × ((other : ℕ) → Accesses state text other → other ≡ line)

-- the same where the line is watched
abbrev pub AsksForWatched : List Point → Option HartState → Memory → Option ℕ → Type 0
AsksForWatched points state text None = (line : ℕ) → Accesses state text line → ¬ (IsTrue (has_watch points line))
AsksForWatched points state text (Some line) = Accesses state text line × IsTrue (has_watch points line)

-- the watched line that a step of a machine touches unless it traps
abbrev pub WatchesOn : List Point → MachineView → Step → Option Cause → Type 0
WatchesOn points machine step None = (hart line : ℕ) → step ≡ Hart hart
    → Accesses (slice_get machine.harts hart) (copy_of machine hart) line → ¬ (IsTrue (has_watch points line))
WatchesOn points machine step (Some (causes.Watch hart line)) = (step ≡ Hart hart)
    × Accesses (slice_get machine.harts hart) (copy_of machine hart) line × IsTrue (has_watch points line)
WatchesOn points machine step (Some cause) = ⊥

-- the pc of a hart that runs and is at a breakpoint
abbrev pub IsBrokenAt : List Point → Option HartState → Option ℕ → Type 0
IsBrokenAt points state None = (pc : ℕ) → ¬ (IsAtBreak points state pc)
IsBrokenAt points state (Some pc) = IsAtBreak points state pc

-- whether a breakpoint stops the run before a step
abbrev pub IsUnbroken : List Point → List HartState → Step → Type 0
IsUnbroken points harts step = (hart pc : ℕ) → step ≡ Hart hart → ¬ (IsAtBreak points (slice_get harts hart) pc)

abbrev pub IsStoppedBefore : List Point → List HartState → Step → Option Cause → Type 0
IsStoppedBefore points harts step None = IsUnbroken points harts step
IsStoppedBefore points harts step (Some (causes.Break hart pc)) = (step ≡ Hart hart) × IsAtBreak points (slice_get harts hart) pc
IsStoppedBefore points harts step (Some cause) = ⊥

-- the step is made, and touches no watched line
pub record StepsOn (old : DebuggerView) (step : Step) (new : DebuggerView) : Type 0 where
  pub points : new.points ≡ old.points
  pub runs : Runs old.machine new.machine (step ∷ [])
  pub untouched : (hart line : ℕ) → step ≡ Hart hart → ¬ (Touches old.points (slice_get old.machine.harts hart)
      (copy_of old.machine hart) (slice_get new.machine.harts hart) line)

-- the step is made, and touches the watched line
pub record StepsOnto (old : DebuggerView) (step : Step) (new : DebuggerView) (hart line : ℕ) : Type 0 where
  pub points : new.points ≡ old.points
  pub runs : Runs old.machine new.machine (step ∷ [])
  pub is_hart : step ≡ Hart hart
  pub touches : Touches old.points (slice_get old.machine.harts hart) (copy_of old.machine hart) (slice_get new.machine.harts hart) line

-- what a step was watched for is met where its hart runs on
abbrev pub met_by : Option Cause → Outcome → Option Cause
met_by watch Done = watch
met_by watch outcome = None

-- whether a watched line stops the run behind a step
abbrev pub IsStoppedBehind : DebuggerView → Step → DebuggerView → Option Cause → Type 0
IsStoppedBehind old step new None = StepsOn old step new
IsStoppedBehind old step new (Some (causes.Watch hart line)) = StepsOnto old step new hart line
IsStoppedBehind old step new (Some cause) = ⊥

-- how a step halts that no breakpoint is asked about
abbrev pub HaltsBehind : DebuggerView → Step → DebuggerView → Halt → Type 0
HaltsBehind old step new (halts.Stop cause) = IsStoppedBehind old step new (Some cause)
HaltsBehind old step new (halts.Fault fault) = (new ≡ old) × Refuses old.machine step fault

-- and how one does before which a breakpoint stops
abbrev pub Halts : DebuggerView → Step → DebuggerView → Halt → Type 0
Halts old step new (halts.Stop (causes.Break hart pc)) =
    (new ≡ old) × (step ≡ Hart hart) × IsAtBreak old.points (slice_get old.machine.harts hart) pc
Halts old step new halt = IsUnbroken old.points old.machine.harts step × HaltsBehind old step new halt

-- the step leads from c to d, and touches no watched line
pub record MovesTo (points : List Point) (c : Config) (step : Step) (d : Config) : Type 0 where
  pub makes : StepsTo c step d
  pub untouched : (hart line : ℕ) → step ≡ Hart hart
      → ¬ (Touches points (slice_get c.harts hart) (text_at c hart) (slice_get d.harts hart) line)

-- the run from c by the steps comes to d, with no breakpoint before a step and no watched line behind one
abbrev pub Passes : List Point → Config → List Step → Config → Type 0
Passes points c [] d = d ≡ c
Passes points c (step ∷ steps) d =
    (middle : Config) × IsUnbroken points c.harts step × MovesTo points c step middle × Passes points middle steps d

-- so does a debugger, whatever its machine represents
pub record Walks (old : DebuggerView) (steps : List Step) (new : DebuggerView) : Type 0 where
  pub points : new.points ≡ old.points
  pub runs : Runs old.machine new.machine steps
  pub passes : (c : Config) → Represents old.machine c → (d : Config) × Passes old.points c steps d × Represents new.machine d
