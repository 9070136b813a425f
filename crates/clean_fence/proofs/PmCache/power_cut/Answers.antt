use Rattle.clean_fence.proofs.Views.{leaves_back, leaves_cut}
use Rattle.clean_fence.proofs.PmCache.power_cut.Goals as goal

pub returns-clause-cut : goal.returns-clause-cut
returns-clause-cut c = rw (← c.self.view_is) (λ start p s. leaves_cut start p _ s)

pub returns-clause-back : goal.returns-clause-back
returns-clause-back c = rw (← c.self.view_is) (λ start p s. leaves_back start p _ s)
