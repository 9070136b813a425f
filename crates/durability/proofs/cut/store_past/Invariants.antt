use Rattle.std.proofs.Common.{◌≡◌, ◌≤◌}
use Rattle.store_trace.specs.Stores.{stores}
use Rattle.store_trace.specs.History.{at_moment}
use Rattle.durability.proofs.cut.store_past.Given as goal

abbrev pub invariant-loop-at : goal.invariant-loop-at
invariant-loop-at l = record {
  count : l.count ≡ stores l.line (at_moment l.events l.at);
  low : l.count ≤ l.number;
}
