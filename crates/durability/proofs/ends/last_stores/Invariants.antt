use Rattle.durability.specs.Stores.{AreLastStores, IsLastStore}
use Rattle.durability.proofs.ends.last_stores.Given as goal

abbrev pub invariant-loop-at : goal.invariant-loop-at
invariant-loop-at l = record {
  last : IsLastStore l.events l.at l.last;
  stores : AreLastStores l.events l.at l.stores.items;
}
