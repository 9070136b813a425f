use Rattle.std.proofs.Common.{◌≡◌, length}
use Rattle.durability.specs.Causes.{AreFates, AreNext}
use Rattle.durability.proofs.fates.fates_of.Given as goal

abbrev pub invariant-loop-at : goal.invariant-loop-at
invariant-loop-at l = record {
  fates : AreFates l.events l.at l.fates.items;
  next : AreNext l.events l.at l.fences l.next.items;
  size : length l.next.items ≡ l.lines;
}
