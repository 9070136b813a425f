use Rattle.std.proofs.Common.{◌≡◌}
use Rattle.std.specs.Vec.{vec_capacity}
use Rattle.index_list.specs.Links.{spelled, IsLinked}
use Rattle.index_list.proofs.links.Links.add_up_to.Given as goal

-- the list stays while nodes are added
abbrev pub invariant-loop : goal.invariant-loop
invariant-loop l = record {
  end : l.self.end ≡ l.counter;
  nodes : l.self.nodes ≡ l.initial.self.nodes;
  linked : IsLinked l.initial.self.nodes l.self.end l.self.next.items l.self.prev.items (spelled l.initial.self.end l.initial.self.next.items) (vec_capacity l.self.next) (vec_capacity l.self.prev);
  list : spelled l.self.end l.self.next.items ≡ spelled l.initial.self.end l.initial.self.next.items;
}
