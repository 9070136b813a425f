-- The loop keeps what the fence makes of each line; the measure, the other clauses and the rest are found.
use Rattle.std.proofs.Common.{sym, ◌∙◌}
use Rattle.clean_fence.proofs.Fences.{fence_begins, fence_goes, fence_steps}
use Rattle.clean_fence.proofs.PmCache.fence.Goals as goal

pub loop-line-init : goal.loop-line-init
loop-line-init c = fence_begins _ _

pub loop-line-preserved : goal.loop-line-preserved
loop-line-preserved c =
    fence_goes _ _ _ _ _ (sym c.in-Some.ensures.value) c.complete.ensures.changed c.complete.ensures.memory c.complete.ensures.sound c.loop-line.invariant

pub returns-clause-steps : goal.returns-clause-steps
returns-clause-steps c = fence_steps _ _ _ (sym c.first_pending.ensures.value ∙ c.in_default.is) c.loop-line.invariant
