use Rattle.std.proofs.Common.{[], arith}
use Rattle.machine.proofs.Places.{leads_all, leads_past, step_here}
use Rattle.machine.proofs.schedule.place.next_step.Goals as goal

pub returns-then-steps-count-clause-next : goal.returns-then-steps-count-clause-next
returns-then-steps-count-clause-next c =
    rw (← c.items-items.ensures)
    (c.loop-item.invariant, step_here _ c.loop-item.item _ c.equal_steps-step.result.1 c.equal_steps-step.ensures c.loop-item.steps (omega arith))

pub loop-item-preserved : goal.loop-item-preserved
loop-item-preserved c = leads_past _ c.loop-item.item _ c.equal_steps-step.result.1 c.equal_steps-step.ensures _ c.loop-item.steps [] (omega arith) c.loop-item.invariant

pub returns-clause-next : goal.returns-clause-next
returns-clause-next c = rw (← c.items-items.ensures) (leads_all _ c.args.from c.loop-item.item c.loop-item.steps [] (omega arith) c.loop-item.invariant)
