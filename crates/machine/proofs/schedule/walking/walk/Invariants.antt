use Rattle.machine.specs.Walks.{Comes}
use Rattle.machine.proofs.schedule.walking.walk.Given as goal

abbrev pub invariant-loop-item : goal.invariant-loop-item
invariant-loop-item g l =
    Comes g.S.Stepper.makes l.fn.stepper l.stepper l.items l.fn.from (record { item = l.item; steps = l.steps })
