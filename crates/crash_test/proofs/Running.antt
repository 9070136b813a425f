-- A run as a value is the machine's one run.
use Rattle.std.proofs.Common.{◌≡◌, List}
use Rattle.machine.specs.Run.{Config, RunsTo}
use Rattle.machine.specs.RunValues.{IsRun, RunView, start_of}
use Rattle.machine.specs.declared.recording.setup.Setup.{Setup}
use Rattle.machine.proofs.Traces.{is_run}
use Rattle.machine.specs.Steps.{all_steps}
use Rattle.machine.specs.declared.schedule.items.Item.{Item}
use Rattle.machine.specs.Replies.{trace_in}
use Rattle.store_trace.specs.declared.event.Event.{Event}

-- the events of the run by a schedule
pub record HasTrace (s : Setup) (schedule : List Item) (trace : List Event) : Type 0 where
  pub end : Config
  pub run : RunsTo (start_of s) (all_steps schedule) end
  pub trace_is : trace ≡ trace_in end.common

pub has_trace : (run : RunView) → IsRun run → HasTrace run.setup run.schedule run.events
has_trace run is = record {
  end = is.end;
  run = is_run 0 (start_of run.setup) is.end (all_steps run.schedule) run.traced is.traced;
  trace_is = is.events;
}
