use Rattle.std.proofs.Common.{◌≡◌, [], replicate}
use Rattle.index_list.specs.Lists.{NodeList}
use Rattle.index_list.proofs.Arena.new.Given as goal

abbrev pub invariant-loop : goal.invariant-loop
invariant-loop g l = l.rings.items ≡ replicate {A = NodeList} l.counter (record { nodes = l.n; items = [] })
