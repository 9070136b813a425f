use Rattle.durability.proofs.Opens.{open_none, open_some}
use Rattle.durability.proofs.cause.Fate.is_open.Goals as goal

pub returns-in-None : goal.returns-in-None
returns-in-None c = λ events line store f. open_none events line store c.args.moment c.args.self c.in-None.is f

pub returns-in-Some : goal.returns-in-Some
returns-in-Some c = λ events line store f. open_some events line store c.args.moment c.in-Some.first c.args.self c.in-Some.is f
