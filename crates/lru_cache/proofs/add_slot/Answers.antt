use Rattle.lru_cache.proofs.InLines.{added_is}
use Rattle.lru_cache.proofs.Stays.{in_added}
use Rattle.lru_cache.proofs.add_slot.Goals as goal

pub returns-clause-stays : goal.returns-clause-stays
returns-clause-stays c = λ capacity resident orders h. (
  rw (c.add.ensures.changed, c.push_reserved.ensures.items, c.push_reserved-2.ensures.items) (in_added _ _ _ _ _ _ _ h c.requires.room (rw c.add.ensures.changed at c.add.ensures.sound)),
  rw (c.add.ensures.changed, c.push_reserved.ensures.items, c.push_reserved-2.ensures.items) (added_is _ _ _ _ _ _ h _ c.requires.room),
)
