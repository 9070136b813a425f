use Rattle.std.proofs.Common.{◌≡◌, map, take}
use Rattle.std.specs.Prelude.{All}
use Rattle.store_trace.specs.TraceView.{NamesLine}
use Rattle.trace_file.specs.Ranks.{named}
use Rattle.trace_file.proofs.by_names.renamed.Given as goal

abbrev pub invariant-loop-event : goal.invariant-loop-event
invariant-loop-event l = record {
  events : l.trace.events ≡ map (named l.names) (take l.event-index l.events);
  within : All (NamesLine l.count) l.trace.events;
}
