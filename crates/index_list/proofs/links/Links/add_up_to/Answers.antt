use Rattle.std.proofs.Common.{◌∙◌, arith}
use Rattle.std.specs.Vec.{vec_capacity}
use Rattle.index_list.specs.Links.{spelled, IsLinked}
use Rattle.index_list.proofs.Changes.{made}
use Rattle.index_list.proofs.links.Links.add_up_to.Goals as goal

pub loop-preserved : goal.loop-preserved
loop-preserved c =
    let now = c.args.self.now in
    let new = c.add_node.new.self in
    let linked : IsLinked now.nodes new.end new.next.items new.prev.items (spelled now.end now.next.items) (vec_capacity new.next) (vec_capacity new.prev) =
    rw (c.loop.invariant.nodes, c.loop.invariant.list) at c.add_node.ensures.linked in
    record {
      end = omega (arith, c.add_node.ensures.end, c.loop.invariant.end);
      nodes = c.add_node.ensures.nodes ∙ c.loop.invariant.nodes;
      linked = linked;
      list = made _ _ _ _ linked.ring;
    }
