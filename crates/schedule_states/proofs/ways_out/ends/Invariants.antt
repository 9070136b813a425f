use Rattle.schedule_states.specs.Ending.{AreEnds}
use Rattle.schedule_states.proofs.ways_out.ends.Given as goal

abbrev pub invariant-loop-number : goal.invariant-loop-number
invariant-loop-number g l = AreEnds l.reached l.marks.items l.number
