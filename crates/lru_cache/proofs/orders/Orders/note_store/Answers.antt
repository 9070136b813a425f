use Rattle.lru_cache.proofs.Splits.{ordered_in}
use Rattle.lru_cache.proofs.orders.Orders.note_store.Goals as goal

pub returns-clause-sound : goal.returns-clause-sound
returns-clause-sound c = ordered_in _ c.put_in.ensures.sound
