use Rattle.std.proofs.Common.{◌≡◌, length, map, take}
use Rattle.std.specs.List.{range_with_len}
use Rattle.std.specs.Prelude.{All}
use Rattle.machine.specs.declared.run_trace.traced_event.TracedEvent.{TracedEvent}
use Rattle.report.specs.Told.{IsFirst, event_of, line_number, numbered, origin_by, place_of, step_of}
use Rattle.trace_file.specs.Ranks.{named}
use Rattle.report.proofs.told.placed.Given as goal

abbrev pub invariant-loop-at : goal.invariant-loop-at
invariant-loop-at l = record {
  events_are : map event_of l.traced.items ≡ map (named l.names) (take l.at l.events);
  places_are : map (origin_by (numbered l.places)) l.traced.items ≡ map place_of (take l.at l.texts);
  first : All (λ (one : TracedEvent). IsFirst (numbered l.places) one.pc) l.traced.items;
  steps_are : map step_of l.traced.items ≡ map line_number (range_with_len 0 l.at);
  size : length l.traced.items ≡ l.at;
}
