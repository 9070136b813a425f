use Rattle.std.proofs.Common.{◌≡◌, ◌∙◌, arith, sym}
use Rattle.index_list.specs.Links.{prev_on}
use Rattle.index_list.proofs.Changes.{Opened, opened, read_prev, back_is}
use Rattle.index_list.proofs.ring.Ring.back.Goals as goal

pub returns : goal.returns
returns c =
    let o : Opened c.args.self.now c.self.inside.links.end c.self.inside.links.next.items c.self.inside.links.prev.items = opened _ _ _ _ _ _ _ _ c.self.view_is c.self.invariant in
    let read : c.index.result.now ≡ prev_on c.self.inside.links.end c.self.inside.links.end c.args.self.now.items c.self.inside.links.end = read_prev _ _ _ _ o _ _ (omega arith) c.index.ensures in
    c.node_before_end.ensures ∙ rw read (sym (back_is _ _ _ _ o))
