use Rattle.std.proofs.Common.{◌≡◌, arith}
use Rattle.index_list.specs.Lists.{last, list_of}
use Rattle.index_list.proofs.Members.{has-last}
use Rattle.index_list.proofs.Rings.{arena_steps}
use Rattle.index_list.proofs.Arena.back.Goals as goal

pub returns-clause-member : goal.returns-clause-member
returns-clause-member g c =
    let value : c.back.result ≡ last (list_of c.args.self.now c.args.k) = grind (arith, arena_steps) in
    rw value (has-last (list_of c.args.self.now c.args.k))
