use Rattle.std.proofs.Common.{[]}
use Rattle.index_list.proofs.Changes.{closed}
use Rattle.index_list.proofs.ring.Ring.new.Goals as goal

pub invariant_of-result : goal.invariant_of-result
invariant_of-result c =
    let linked = c.in_ok-links.ensures.linked in
    closed _ _ _ _ [] _ _ linked.ring linked.few linked.next_room linked.prev_room
