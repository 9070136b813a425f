use Rattle.std.proofs.Common.{◌≡◌, arith, ap}
use Rattle.index_list.specs.Lists.{NodeList}
use Rattle.index_list.specs.Links.{prev_on}
use Rattle.index_list.proofs.Changes.{Opened, opened, read_prev, last_small, pushed_back, closed, viewed}
use Rattle.index_list.proofs.ring.Ring.push_back.Goals as goal

pub index_mut-requires-3 : goal.index_mut-requires-3
index_mut-requires-3 c =
    let o : Opened c.args.self.now c.reach.new.self.end c.reach.new.self.next.items c.reach.new.self.prev.items = opened _ _ _ _ _ _ _ _ c.self.view_is c.reach.ensures.linked in
    let read : c.index-preceding.result.now ≡ prev_on c.reach.new.self.end c.reach.new.self.end c.args.self.now.items c.reach.new.self.end = read_prev _ _ _ _ o _ _ (omega arith) c.index-preceding.ensures in
    omega (arith, read, last_small _ _ _ _ o, o.ring.next_len, c.reach.new.self.next.ok.0)

pub invariant_of-self : goal.invariant_of-self
invariant_of-self c =
    let o : Opened c.args.self.now c.reach.new.self.end c.reach.new.self.next.items c.reach.new.self.prev.items = opened _ _ _ _ _ _ _ _ c.self.view_is c.reach.ensures.linked in
    closed _ _ _ _ _ _ _ (pushed_back _ _ _ _ o _ _ (omega (arith, c.reach.ensures.end)) c.requires.fresh (read_prev _ _ _ _ o _ _ (omega arith) c.index-preceding.ensures))
    (omega (arith, c.reach.ensures.nodes, c.reach.ensures.linked.few)) (omega (arith, c.reach.ensures.nodes, c.reach.ensures.linked.next_room)) (omega (arith, c.reach.ensures.nodes, c.reach.ensures.linked.prev_room))

pub returns : goal.returns
returns c =
    let o : Opened c.args.self.now c.reach.new.self.end c.reach.new.self.next.items c.reach.new.self.prev.items = opened _ _ _ _ _ _ _ _ c.self.view_is c.reach.ensures.linked in
    viewed c.args.self.now _ _ _ _ _ (omega (arith, c.reach.ensures.nodes, ap (λ (v : NodeList). v.nodes) c.self.view_is)) (pushed_back _ _ _ _ o _ _ (omega (arith, c.reach.ensures.end)) c.requires.fresh (read_prev _ _ _ _ o _ _ (omega arith) c.index-preceding.ensures))
