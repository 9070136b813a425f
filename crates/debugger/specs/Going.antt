-- What `go` does: the steps from a place in a schedule on, up to their stop point or to the first that is refused.
use Rattle.std.specs.Prelude.{◌<◌, ◌+◌, ◌≡◌, ℕ, List, Result, Ok, Err, length, slice_get, take}
use Rattle.machine.specs.Refusals.{Refuses, RefusesNext}
use Rattle.machine.specs.Run.{Config}
use Rattle.machine.specs.Represents.{MachineView, Runs, Represents}
use Rattle.machine.specs.Places.{IsPlaceOf, IsReached, steps_after, steps_of_item}
use Rattle.machine.specs.declared.schedule.items.Item.{Item}
use Rattle.machine.specs.declared.schedule.items.Step.{Step}
use Rattle.machine.specs.declared.schedule.place.Place.{Place}
use Rattle.machine.specs.declared.shared_memory.fault.StepFault.{StepFault}
use Rattle.debugger.specs.Points.{DebuggerView}
use Rattle.debugger.specs.StopPoint.{HasCause, IsStopPoint}
use Rattle.debugger.specs.declared.fault.DebugFault.{DebugFault}
use Rattle.debugger.specs.declared.fault.DebugFault.TheVariants as faults
use Rattle.debugger.specs.declared.stop.Cause.{Cause}
use Rattle.debugger.specs.declared.stop.Cause.TheVariants as causes
use Rattle.debugger.specs.declared.stop.Halt.{Halt}
use Rattle.debugger.specs.declared.stop.Halt.TheVariants as halts
use Rattle.debugger.specs.declared.stop.Stop.{Stop}

-- the steps up to the stop point are made, and no others; the place reached is behind them
pub record GoesTo (old new : DebuggerView) (items : List Item) (from : Place) (stop : Stop) : Type 0 where
  pub made : ℕ
  pub points : new.points ≡ old.points
  pub runs : Runs old.machine new.machine (take made (steps_after items from))
  pub stops : (c : Config) → Represents old.machine c → IsStopPoint old.points c (steps_after items from) made stop.cause
  pub place : IsPlaceOf items stop.place
  pub reached : IsReached items from made stop.place

-- the steps before one that is refused are made; no stop point is among them, and the place reached is that of the refused one
pub record GoesUpTo (old new : DebuggerView) (items : List Item) (from place : Place) (fault : StepFault) : Type 0 where
  pub made : ℕ
  pub points : new.points ≡ old.points
  pub runs : Runs old.machine new.machine (take made (steps_after items from))
  pub goes_on : (c : Config) → Represents old.machine c → (k : ℕ) (cause : Cause) → k < made
      → ¬ (HasCause old.points c (steps_after items from) k cause)
  pub refused : RefusesNext new.machine (slice_get (steps_after items from) made) fault
  pub there : place.steps < length (steps_of_item (slice_get items place.item))
  pub reached : IsReached items from made place

-- why a debugger is refused a step, and where `go` is
abbrev pub RefusesStep : MachineView → Step → DebugFault → Type 0
RefusesStep machine step (faults.Step fault) = Refuses machine step fault
RefusesStep machine step fault = ⊥

abbrev pub IsStoppedBy : DebuggerView → DebuggerView → List Item → Place → DebugFault → Type 0
IsStoppedBy old new items from (faults.Stopped place fault) = GoesUpTo old new items from place fault
IsStoppedBy old new items from fault = ⊥

-- what `go` comes to where the debugger halts at the step of a place: a watched line stops it behind the step
abbrev pub behind : Place → Place
behind place = record place { steps = place.steps + 1 }

abbrev pub stop_at : Place → Cause → Stop
stop_at place (causes.Watch hart line) = record { cause = causes.Watch hart line; place = behind place }
stop_at place cause = record { cause = cause; place = place }

abbrev pub ended : Place → Halt → Result Stop DebugFault
ended place (halts.Stop cause) = Ok (stop_at place cause)
ended place (halts.Fault fault) = Err (faults.Stopped place fault)
