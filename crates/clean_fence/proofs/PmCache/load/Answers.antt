use Rattle.clean_fence.proofs.Crowding.{load_steps}
use Rattle.clean_fence.proofs.PmCache.load.Goals as goal

pub returns-clause-steps : goal.returns-clause-steps
returns-clause-steps c =
    rw (← c.self.view_is) (load_steps _ _ _ _ c.load.ensures.changed c.load.ensures.medium c.load.ensures.shown c.self.invariant.cache)
