use Rattle.bus.proofs.Starting.{are_new}
use Rattle.bus.proofs.locked.Core.made.Goals as goal

pub returns-in-Ok-clause-made : goal.returns-in-Ok-clause-made
returns-in-Ok-clause-made c =
    are_new _ _ c.args.harts _ c.args.budget c.in_ok-core.core c.in-Ok.seats.items c.in_ok-core.ensures.core
    (rw (← c.text.ensures.value) c.in-Ok.ensures)
