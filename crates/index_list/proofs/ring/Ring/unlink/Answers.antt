use Rattle.std.proofs.Common.{arith, ap}
use Rattle.index_list.specs.Lists.{NodeList}
use Rattle.index_list.proofs.Changes.{Opened, opened, member_below, member_small, on_way, read_next, read_prev, next_small, prev_small, unlinked, closed, viewed, gone}
use Rattle.index_list.proofs.ring.Ring.unlink.Goals as goal

pub index-preceding-requires : goal.index-preceding-requires
index-preceding-requires c =
    let o : Opened c.args.self.now c.self.inside.links.end c.self.inside.links.next.items c.self.inside.links.prev.items = opened _ _ _ _ _ _ _ _ c.self.view_is c.self.invariant in
    omega (arith, member_below _ _ _ _ o _ c.requires, o.ring.prev_len, c.self.inside.links.prev.ok.0)

pub index-following-requires : goal.index-following-requires
index-following-requires c =
    let o : Opened c.args.self.now c.self.inside.links.end c.self.inside.links.next.items c.self.inside.links.prev.items = opened _ _ _ _ _ _ _ _ c.self.view_is c.self.invariant in
    omega (arith, member_below _ _ _ _ o _ c.requires, o.ring.next_len, c.self.inside.links.next.ok.0)

pub index_mut-requires : goal.index_mut-requires
index_mut-requires c =
    let o : Opened c.args.self.now c.self.inside.links.end c.self.inside.links.next.items c.self.inside.links.prev.items = opened _ _ _ _ _ _ _ _ c.self.view_is c.self.invariant in
    omega (arith, read_prev _ _ _ _ o _ _ (member_small _ _ _ _ o _ c.requires) c.index-preceding.ensures, prev_small _ _ _ _ o _ (on_way _ _ _ _ o _ c.requires), o.ring.next_len, c.self.inside.links.next.ok.0)

pub index_mut-requires-2 : goal.index_mut-requires-2
index_mut-requires-2 c =
    let o : Opened c.args.self.now c.self.inside.links.end c.self.inside.links.next.items c.self.inside.links.prev.items = opened _ _ _ _ _ _ _ _ c.self.view_is c.self.invariant in
    omega (arith, read_next _ _ _ _ o _ _ (member_small _ _ _ _ o _ c.requires) c.index-following.ensures, next_small _ _ _ _ o _ (on_way _ _ _ _ o _ c.requires), o.ring.prev_len, c.self.inside.links.prev.ok.0)

pub index_mut-requires-3 : goal.index_mut-requires-3
index_mut-requires-3 c =
    let o : Opened c.args.self.now c.self.inside.links.end c.self.inside.links.next.items c.self.inside.links.prev.items = opened _ _ _ _ _ _ _ _ c.self.view_is c.self.invariant in
    omega (arith, member_below _ _ _ _ o _ c.requires, o.ring.next_len, c.self.inside.links.next.ok.0)

pub index_mut-requires-4 : goal.index_mut-requires-4
index_mut-requires-4 c =
    let o : Opened c.args.self.now c.self.inside.links.end c.self.inside.links.next.items c.self.inside.links.prev.items = opened _ _ _ _ _ _ _ _ c.self.view_is c.self.invariant in
    omega (arith, member_below _ _ _ _ o _ c.requires, o.ring.prev_len, c.self.inside.links.prev.ok.0)

pub invariant_of-self : goal.invariant_of-self
invariant_of-self c =
    let o : Opened c.args.self.now c.self.inside.links.end c.self.inside.links.next.items c.self.inside.links.prev.items = opened _ _ _ _ _ _ _ _ c.self.view_is c.self.invariant in
    closed _ _ _ _ _ _ _ (unlinked _ _ _ _ o _ _ _ c.requires (read_prev _ _ _ _ o _ _ (member_small _ _ _ _ o _ c.requires) c.index-preceding.ensures) (read_next _ _ _ _ o _ _ (member_small _ _ _ _ o _ c.requires) c.index-following.ensures))
    c.self.invariant.few c.self.invariant.next_room c.self.invariant.prev_room

pub returns-clause-changed : goal.returns-clause-changed
returns-clause-changed c =
    let o : Opened c.args.self.now c.self.inside.links.end c.self.inside.links.next.items c.self.inside.links.prev.items = opened _ _ _ _ _ _ _ _ c.self.view_is c.self.invariant in
    viewed c.args.self.now _ _ _ _ _ (omega (arith, ap (λ (v : NodeList). v.nodes) c.self.view_is)) (unlinked _ _ _ _ o _ _ _ c.requires (read_prev _ _ _ _ o _ _ (member_small _ _ _ _ o _ c.requires) c.index-preceding.ensures) (read_next _ _ _ _ o _ _ (member_small _ _ _ _ o _ c.requires) c.index-following.ensures))

pub returns-clause-below : goal.returns-clause-below
returns-clause-below c =
    let o : Opened c.args.self.now c.self.inside.links.end c.self.inside.links.next.items c.self.inside.links.prev.items = opened _ _ _ _ _ _ _ _ c.self.view_is c.self.invariant in
    omega (arith, member_below _ _ _ _ o _ c.requires, o.few)

pub returns-clause-gone : goal.returns-clause-gone
returns-clause-gone c =
    let o : Opened c.args.self.now c.self.inside.links.end c.self.inside.links.next.items c.self.inside.links.prev.items = opened _ _ _ _ _ _ _ _ c.self.view_is c.self.invariant in
    gone _ _ _ _ o _ _ _ (unlinked _ _ _ _ o _ _ _ c.requires (read_prev _ _ _ _ o _ _ (member_small _ _ _ _ o _ c.requires) c.index-preceding.ensures) (read_next _ _ _ _ o _ _ (member_small _ _ _ _ o _ c.requires) c.index-following.ensures))
