use Rattle.std.proofs.Common.{◌≡◌, length}
use Rattle.durability.specs.Reading.{AreLastFences, AreLines, AreTold}
use Rattle.durability.proofs.redundant.told.needless_events.Given as goal

abbrev pub invariant-loop-at : goal.invariant-loop-at
invariant-loop-at l = record {
  size : length l.told.items ≡ length l.events;
  count : length l.states.items ≡ l.lines;
  fences : AreLastFences l.events l.at l.fences;
  lines : AreLines l.events l.at l.states.items;
  told : AreTold l.events l.at l.at l.told.items;
}
