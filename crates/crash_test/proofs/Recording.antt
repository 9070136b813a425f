-- Why a run isn't recorded.
use Rattle.std.proofs.Common.{List, length, inl, inr, ◌∙◌}
use Rattle.machine.specs.Recorded.{FailsToRecord, IsRefused as StopsMachine, StopsRecording}
use Rattle.machine.specs.declared.fault.RunStop.{RunStop}
use Rattle.machine.specs.declared.schedule.items.Item.{Item}
use Rattle.crash_test.proofs.Making.{are_there}
use Rattle.crash_test.specs.Runs.{FailsToRun, RefusesStep}
use Rattle.machine.specs.RunValues.{IsWithin, start_of}
use Rattle.machine.specs.declared.recording.setup.Setup.{Setup}

refuses_step : (s : Setup) (schedule : List Item) (stop : RunStop) → IsWithin s
    → StopsMachine (start_of s) (length s.medium) schedule stop → RefusesStep s schedule stop.fault
refuses_step s schedule stop within stops =
    let made = stops.stops.runs.represents (start_of s) stops.represents in
    record {
      machine = stops.new;
      item = stop.place.item;
      steps = stop.place.steps;
      has_made = record {
        within = within;
        there = are_there s stops.old _ stops.represents stops.lines stops.stops.runs.there;
        end = made.0;
        run = made.1;
        represents = made.2;
        lines = stops.stops.runs.lines ∙ stops.lines;
        few = stops.few;
      };
      refused = stops.stops.refused;
    }

stopped : (s : Setup) (schedule : List Item) (stop : RunStop) → IsWithin s
    → StopsRecording (start_of s) (length s.medium) schedule stop → FailsToRun s schedule stop.fault
stopped s schedule stop within stops = elim stops.reason [
  | inl want ↦ inl want
  | inr refused ↦ inr (inr (refuses_step s schedule stop within refused))
]

pub stops_recording : (s : Setup) (schedule : List Item) (stop : RunStop)
    → FailsToRecord (start_of s) s.harts s.capacity (length s.medium) schedule stop → FailsToRun s schedule stop.fault
stops_recording s schedule stop (inl outside) = inr (inl outside.0)
stops_recording s schedule stop (inr (within, stops)) = stopped s schedule stop within stops
