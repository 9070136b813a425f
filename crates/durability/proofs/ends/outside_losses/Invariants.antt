use Rattle.std.proofs.Common.{length}
use Rattle.durability.proofs.Lates.{AreLost}
use Rattle.durability.specs.Operations.{AreOpen}
use Rattle.durability.specs.Unpersisted.{IsUnpersistedOutside}
use Rattle.durability.proofs.ends.outside_losses.Given as goal

abbrev pub invariant-loop-at : goal.invariant-loop-at
invariant-loop-at l = record {
  under_way : AreOpen l.events l.at l.under_way;
  lost : AreLost l.events (length l.events) (IsUnpersistedOutside l.events) l.at l.lost.items;
}
