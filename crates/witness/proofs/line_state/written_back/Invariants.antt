use Rattle.std.proofs.Common.{◌≡◌, ◌≤◌, take}
use Rattle.store_trace.specs.History.{history}
use Rattle.witness.specs.LineState.{IsAfter}
use Rattle.witness.proofs.line_state.written_back.Given as goal

abbrev pub invariant-loop-event : goal.invariant-loop-event
invariant-loop-event l = IsAfter (history (take l.event-index l.events)) l.state × (l.state.line ≡ l.line) × (l.state.stores ≤ l.event-index)
