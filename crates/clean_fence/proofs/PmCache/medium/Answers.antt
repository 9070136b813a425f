use Rattle.lru_cache.proofs.Shows.{whole_shown}
use Rattle.clean_fence.proofs.Views.{leaves_back, leaves_cut}
use Rattle.clean_fence.proofs.PmCache.medium.Goals as goal

pub returns-clause-whole : goal.returns-clause-whole
returns-clause-whole c = rw (← c.self.view_is) (whole_shown _ c.self.invariant.cache _ c.self.invariant.over 0)

pub returns-clause-cut : goal.returns-clause-cut
returns-clause-cut c = rw (← c.self.view_is) (λ start p s. leaves_cut start p _ s)

pub returns-clause-back : goal.returns-clause-back
returns-clause-back c = rw (← c.self.view_is) (λ start p s. leaves_back start p _ s)
