use Rattle.random_schedule.proofs.Weaves.{hart_woven}
use Rattle.random_schedule.proofs.weaving.weave_hart.Goals as goal

pub loop-done-preserved : goal.loop-done-preserved
loop-done-preserved c =
    hart_woven c.args.made c.loop-done.done c.args.hart _ _ _ _ _ c.loop-done.invariant c.in_ok-push_step.ensures.ok
    (rw c.evictions_after.ensures at c.in_ok-push_evictions.ensures)
