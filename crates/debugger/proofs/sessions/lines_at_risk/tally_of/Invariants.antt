use Rattle.std.proofs.Common.{◌≤◌, take}
use Rattle.store_trace.specs.History.{history}
use Rattle.debugger.specs.LinesAtRisk.{IsTally}
use Rattle.debugger.proofs.sessions.lines_at_risk.tally_of.Given as goal

abbrev pub invariant-loop-event : goal.invariant-loop-event
invariant-loop-event l = record {
  tally : IsTally l.line (history (take l.event-index l.events)) l.tally;
  few : l.tally.stores ≤ l.event-index;
}
