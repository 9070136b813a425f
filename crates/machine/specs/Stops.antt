-- Where a run of a schedule stops, and which steps stand then.
use Rattle.std.specs.Prelude.{◌<◌, List, length, Option, Some, None, slice_get, Bool, true, false}
use Rattle.hart.specs.declared.state.HartState.{HartState}
use Rattle.hart.specs.declared.state.Status.{Status}
use Rattle.hart.specs.declared.state.Status.TheVariants.{Running, Exited, Trapped}
use Rattle.machine.specs.declared.fault.RunStop.{RunStop}
use Rattle.machine.specs.declared.schedule.items.Item.{Item}
use Rattle.machine.specs.Refusals.{RefusesNext}
use Rattle.machine.specs.Places.{steps_before, steps_of_item}
use Rattle.machine.specs.Represents.{MachineView, Runs}

-- a run that was refused a step: that step is there, those before it stand, and the machine as they left it refuses it
pub record StopsAt (old new : MachineView) (items : List Item) (stop : RunStop) : Type 0 where
  pub item : stop.place.item < length items
  pub steps : stop.place.steps < length (steps_of_item (slice_get items stop.place.item))
  pub runs : Runs old new (steps_before items stop.place.item stop.place.steps)
  pub refused : RefusesNext new (slice_get (steps_of_item (slice_get items stop.place.item)) stop.place.steps) stop.fault

-- a hart that is there and has stopped
abbrev pub has_stopped : Status → Bool
has_stopped Running = false
has_stopped (Exited code) = true
has_stopped (Trapped trap) = true

abbrev pub is_stopped : Option HartState → Bool
is_stopped None = false
is_stopped (Some s) = has_stopped s.status
