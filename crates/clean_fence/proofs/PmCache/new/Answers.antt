use Rattle.lru_cache.proofs.Shows.{shown_empty}
use Rattle.clean_fence.proofs.PmCache.new.Goals as goal

pub returns-clause-memory : goal.returns-clause-memory
returns-clause-memory c = rw c.in_ok-cache.ensures.made (shown_empty _ _)
