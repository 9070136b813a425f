use Rattle.std.proofs.Common.{◌≡◌, arith, refl}
use Rattle.std.proofs.lemmas.Bool.{ne_eqb}
use Rattle.index_list.specs.Lists.{NodeList}
use Rattle.index_list.specs.Links.{prev_on, spelled}
use Rattle.index_list.proofs.Changes.{Opened, opened, read_next, read_prev, last_small, grown, grown_empty}
use Rattle.index_list.proofs.links.Links.add_node.Goals as goal

pub index_mut-requires-then-first-node-2 : goal.index_mut-requires-then-first-node-2
index_mut-requires-then-first-node-2 c =
    let now = c.args.self.now in
    let v : NodeList = record { nodes = now.nodes; items = spelled now.end now.next.items } in
    let o : Opened v now.end now.next.items now.prev.items = opened v _ _ _ _ _ _ _ refl c.requires.linked in
    let read : c.index-last.result.now ≡ prev_on now.end now.end v.items now.end = read_prev _ _ _ _ o _ _ (omega arith) c.index-last.ensures in
    omega (arith, read, last_small _ _ _ _ o, o.ring.next_len, c.push_reserved.ensures.len, now.next.ok.0)

pub returns-then-first-node-clause-linked : goal.returns-then-first-node-clause-linked
returns-then-first-node-clause-linked c =
    let now = c.args.self.now in
    let v : NodeList = record { nodes = now.nodes; items = spelled now.end now.next.items } in
    let o : Opened v now.end now.next.items now.prev.items = opened v _ _ _ _ _ _ _ refl c.requires.linked in
    let following = read_next _ _ _ _ o _ _ (omega arith) c.index-first.ensures in
    let before = read_prev _ _ _ _ o _ _ (omega arith) c.index-last.ensures in
    rw (c.push_reserved.ensures.items, c.push_reserved-2.ensures.items) (record {
      ring = grown _ _ _ _ o _ _ following before (ne_eqb _ _ c.if-first-node.true);
      few = omega (arith, c.requires.more);
      next_room = omega (arith, c.push_reserved.ensures.capacity, c.requires.linked.next_room);
      prev_room = omega (arith, c.push_reserved-2.ensures.capacity, c.requires.linked.prev_room);
    })

pub returns-else-first-node-clause-linked : goal.returns-else-first-node-clause-linked
returns-else-first-node-clause-linked c =
    let now = c.args.self.now in
    let v : NodeList = record { nodes = now.nodes; items = spelled now.end now.next.items } in
    let o : Opened v now.end now.next.items now.prev.items = opened v _ _ _ _ _ _ _ refl c.requires.linked in
    let following = read_next _ _ _ _ o _ _ (omega arith) c.index-first.ensures in
    rw (c.push_reserved.ensures.items, c.push_reserved-2.ensures.items) (record {
      ring = grown_empty _ _ _ _ o _ following c.if-first-node.false;
      few = omega (arith, c.requires.more);
      next_room = omega (arith, c.push_reserved.ensures.capacity, c.requires.linked.next_room);
      prev_room = omega (arith, c.push_reserved-2.ensures.capacity, c.requires.linked.prev_room);
    })
