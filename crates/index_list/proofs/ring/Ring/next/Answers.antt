use Rattle.std.proofs.Common.{◌≡◌, ◌<◌, ◌∙◌, arith, sym}
use Rattle.index_list.specs.Links.{next_on}
use Rattle.index_list.proofs.Changes.{Opened, opened, member_below, read_next, after_is}
use Rattle.index_list.proofs.ring.Ring.next.Goals as goal

pub index-requires : goal.index-requires
index-requires c =
    let o : Opened c.args.self.now c.self.inside.links.end c.self.inside.links.next.items c.self.inside.links.prev.items = opened _ _ _ _ _ _ _ _ c.self.view_is c.self.invariant in
    omega (arith, member_below _ _ _ _ o _ c.requires, o.ring.next_len, c.self.inside.links.next.ok.0)

pub returns : goal.returns
returns c =
    let o : Opened c.args.self.now c.self.inside.links.end c.self.inside.links.next.items c.self.inside.links.prev.items = opened _ _ _ _ _ _ _ _ c.self.view_is c.self.invariant in
    let below : c.args.i < c.self.inside.links.end = member_below _ _ _ _ o _ c.requires in
    let read : c.index.result.now ≡ next_on c.self.inside.links.end c.self.inside.links.end c.args.self.now.items c.args.i = read_next _ _ _ _ o _ _ (omega arith) c.index.ensures in
    c.node_before_end.ensures ∙ rw read (sym (after_is _ _ _ _ o _ c.requires))
