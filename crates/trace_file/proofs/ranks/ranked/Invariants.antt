use Rattle.std.proofs.Common.{◌≡◌, length, map, take}
use Rattle.std.specs.Prelude.{All}
use Rattle.store_trace.specs.TraceView.{NamesLine}
use Rattle.trace_file.specs.Ranks.{named}
use Rattle.trace_file.proofs.ranks.ranked.Given as goal

abbrev pub invariant-loop-event : goal.invariant-loop-event
invariant-loop-event l = record {
  names : map (named l.names) l.trace.events ≡ take l.event-index l.events;
  within : All (NamesLine (length l.names)) l.trace.events;
}
