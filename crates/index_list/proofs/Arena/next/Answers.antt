use Rattle.std.proofs.Common.{◌≡◌, arith}
use Rattle.index_list.specs.Lists.{after, list_of}
use Rattle.index_list.proofs.Members.{has-after}
use Rattle.index_list.proofs.Rings.{arena_steps}
use Rattle.index_list.proofs.Arena.next.Goals as goal

pub returns-clause-member : goal.returns-clause-member
returns-clause-member g c =
    let value : c.next.result ≡ after c.args.i (list_of c.args.self.now c.args.k) = grind (arith, arena_steps) in
    rw value (has-after c.args.i (list_of c.args.self.now c.args.k))
