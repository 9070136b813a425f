use Rattle.schedule_states.proofs.Marking.{IsPassed}
use Rattle.schedule_states.proofs.ways.mark_pass.Given as goal

abbrev pub invariant-loop-behind : goal.invariant-loop-behind
invariant-loop-behind l = IsPassed l.next l.initial.marks l.marks l.has_marked l.behind
