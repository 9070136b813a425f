use Rattle.recovery.proofs.Starting.{over_start}
use Rattle.recovery.proofs.overlay_memory.region.Region.set_back.Goals as goal

pub invariant_of-self : goal.invariant_of-self
invariant_of-self c = (c.self.invariant.0, over_start _ _ _ c.set_back.ensures.fresh c.self.invariant.0 c.self.invariant.1.count)
