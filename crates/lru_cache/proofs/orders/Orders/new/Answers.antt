use Rattle.lru_cache.proofs.Splits.{ordered_in, orders_empty}
use Rattle.lru_cache.proofs.orders.Orders.new.Goals as goal

pub returns-clause-made : goal.returns-clause-made
returns-clause-made c = rw c.in_ok-arena.ensures.made (orders_empty c.args.slots)

pub returns-clause-sound : goal.returns-clause-sound
returns-clause-sound c = ordered_in _ c.in_ok-arena.ensures.sound
