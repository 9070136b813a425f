use Rattle.clean_fence.proofs.Crowding.{store_steps}
use Rattle.clean_fence.proofs.PmCache.store.Goals as goal

pub returns-clause-steps : goal.returns-clause-steps
returns-clause-steps c =
    rw (← c.self.view_is) (store_steps _ _ _ _ _ _ _ c.store.ensures.changed c.store.ensures.medium c.store.ensures.line c.self.invariant.cache)
