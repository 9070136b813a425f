use Rattle.std.proofs.Common.{length}
use Rattle.lru_cache.specs.Order.{marked_in}
use Rattle.clean_fence.proofs.Fences.{FenceSoFar}
use Rattle.clean_fence.proofs.PmCache.fence.Given as goal

abbrev pub invariant-loop-line : goal.invariant-loop-line
invariant-loop-line l = FenceSoFar l.hart l.initial.self l.self

abbrev pub decreases-loop-line : goal.decreases-loop-line
decreases-loop-line l = length (marked_in l.self.cache.orders l.hart)
