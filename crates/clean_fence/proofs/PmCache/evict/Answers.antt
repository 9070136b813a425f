use Rattle.clean_fence.proofs.Crowding.{evict_steps}
use Rattle.clean_fence.proofs.Absent.{absent_same}
use Rattle.clean_fence.proofs.PmCache.evict.Goals as goal

pub returns-clause-steps : goal.returns-clause-steps
returns-clause-steps c =
    rw (← c.self.view_is) (evict_steps _ _ _ _ c.evict.ensures.changed c.evict.ensures.medium c.evict.ensures.shown c.self.invariant.cache)

pub returns-clause-absent : goal.returns-clause-absent
returns-clause-absent c =
    rw (← c.self.view_is) (absent_same _ _ _ _ c.evict.ensures.changed c.evict.ensures.medium c.self.invariant)
