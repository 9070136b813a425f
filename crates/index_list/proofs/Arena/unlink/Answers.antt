use Rattle.index_list.proofs.Rings.{ring_stands, changed, CanStand-without}
use Rattle.index_list.proofs.Arena.unlink.Goals as goal

pub invariant_of-self : goal.invariant_of-self
invariant_of-self g c =
    rw c.unlink.ensures.changed (changed _ _ _ c.self.invariant _ _ (CanStand-without _ _ _ (ring_stands _ _ _ c.self.invariant _ _ c.requires.list c.index_mut-ring.ensures.value)))

pub returns-clause-sound : goal.returns-clause-sound
returns-clause-sound g c = (invariant_of-self g c).sound
