use Rattle.durability.proofs.Endings.{AreEndsTo}
use Rattle.durability.specs.Operations.{AreOpen}
use Rattle.durability.proofs.ends.end_losses.Given as goal

abbrev pub invariant-loop-at : goal.invariant-loop-at
invariant-loop-at l = record {
  under_way : AreOpen l.events l.at l.under_way;
  told : AreEndsTo l.events l.at l.told.items;
}
