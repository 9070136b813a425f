use Rattle.lru_cache.proofs.Splits.{ordered_in}
use Rattle.lru_cache.proofs.orders.Orders.oldest.Goals as goal

pub returns-clause-sound : goal.returns-clause-sound
returns-clause-sound c = rw (← c.self.view_is) (ordered_in _ c.self.invariant)
