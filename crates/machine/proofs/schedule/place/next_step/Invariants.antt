use Rattle.std.proofs.Common.{[]}
use Rattle.machine.specs.Places.{Leads}
use Rattle.machine.proofs.schedule.place.next_step.Given as goal

abbrev pub invariant-loop-item : goal.invariant-loop-item
invariant-loop-item l = Leads l.items l.fn.from (record { item = l.item; steps = l.steps }) []
