use Rattle.std.proofs.Common.{arith}
use Rattle.index_list.proofs.Rings.{arena_steps, ring_stands, changed, CanStand-back}
use Rattle.index_list.proofs.Arena.push_back.Goals as goal

pub invariant_of-self : goal.invariant_of-self
invariant_of-self g c =
    rw c.push_back.ensures (changed _ _ _ c.self.invariant _ _ (CanStand-back _ _ _ (ring_stands _ _ _ c.self.invariant _ _ c.requires.list c.index_mut-ring.ensures.value) (grind (arith, arena_steps)) (grind (arith, arena_steps))))

pub returns-clause-sound : goal.returns-clause-sound
returns-clause-sound g c = (invariant_of-self g c).sound
