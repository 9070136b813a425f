use Rattle.reservation.proofs.Ended.{none_ended}
use Rattle.reservation.proofs.Reservations.stored.Goals as goal

pub returns-else-self : goal.returns-else-self
returns-else-self c = none_ended c.args.hart c.args.line c.args.self.now (rw c.self.view_is at (c.self.invariant c.if-self.false))
