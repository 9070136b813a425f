use Rattle.std.proofs.Common.{◌≡◌, drop}
use Rattle.lru_cache.specs.Order.{oldest_of_first}
use Rattle.lru_cache.proofs.lowest_oldest.Given as goal

abbrev pub invariant-loop-set : goal.invariant-loop-set
invariant-loop-set l = oldest_of_first (drop l.set l.orders.recency) ≡ oldest_of_first l.orders.recency
