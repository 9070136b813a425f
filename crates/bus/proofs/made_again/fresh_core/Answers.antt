use Rattle.bus.proofs.Starting.{fresh_of_new}
use Rattle.bus.proofs.made_again.fresh_core.Goals as goal

pub returns-in-Ok-begun-clause-ok : goal.returns-in-Ok-begun-clause-ok
returns-in-Ok-begun-clause-ok c =
    fresh_of_new c.args.core.now c.in-Ok-begun.fresh
    (rw (c.program.ensures, c.in-Ok.ensures.ok, c.start.ensures.value, c.harts.ensures.value, c.capacity.ensures.value) at c.in-Ok-begun.ensures.core)
