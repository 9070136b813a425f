use Rattle.std.proofs.Common.{refl}
use Rattle.machine.proofs.Serving.{below_done, below_outside}
use Rattle.machine.proofs.shared_memory.shared.Shared.reply_below.Goals as goal

pub returns-in-Some : goal.returns-in-Some
returns-in-Some c =
    rw (← c.self.view_is) (below_done _ c.args.op c.args.hart c.args.address c.requires (rw (← c.in-Some.ensures) refl))

pub returns-in-None : goal.returns-in-None
returns-in-None c =
    rw (← c.self.view_is) (below_outside _ c.args.op c.args.hart c.args.address c.requires (rw (← c.in-None.ensures) refl))
