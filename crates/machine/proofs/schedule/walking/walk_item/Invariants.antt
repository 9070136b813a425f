use Rattle.std.proofs.Common.{◌-◌}
use Rattle.machine.specs.Walks.{Comes}
use Rattle.machine.proofs.schedule.walking.walk_item.Given as goal

abbrev pub invariant-loop-steps : goal.invariant-loop-steps
invariant-loop-steps g l =
    Comes g.S.Stepper.makes l.fn.stepper l.stepper l.items l.from (record { item = l.from.item; steps = l.steps })

abbrev pub decreases-loop-steps : goal.decreases-loop-steps
decreases-loop-steps g l = l.count - l.steps
