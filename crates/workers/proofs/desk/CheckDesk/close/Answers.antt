use Rattle.std.proofs.Common.{sym, subst}
use Rattle.workers.specs.Desks.{IsLeastOf, all_bad}
use Rattle.workers.proofs.Closing.{least_of}
use Rattle.workers.proofs.desk.CheckDesk.close.Goals as goal

pub returns-clause-least : goal.returns-clause-least
returns-clause-least c = subst (IsLeastOf (all_bad c.args.seats.items)) (sym c.moment_in.ensures)
    (least_of c.args.self.name.moments c.gather-all.result.me.0 c.settle-claims.result.0 c.settle-claims.result.1 c.lesser.result c.args.seats.items c.settle-claims.ensures c.gather-all.ensures.view)
