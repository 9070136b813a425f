use Rattle.bus.proofs.Starting.{new_invariant}
use Rattle.bus.proofs.locked.Core.around.Goals as goal

pub invariant_of-result : goal.invariant_of-result
invariant_of-result c =
    new_invariant c.args.program.now c.args.start c.args.harts c.args.capacity c.in-Ok.shared c.new-in-Ok.result.items c.requires.limit
    (rw c.requires.copy c.in-Ok.ensures.ok) (rw c.requires.copy c.in-Ok.ensures.exact) (rw c.requires.copy c.in-Ok.ensures.lines) c.in-Ok.ensures.capacity c.in-Ok.ensures.trace
    c.new-in-Ok.ensures.items
