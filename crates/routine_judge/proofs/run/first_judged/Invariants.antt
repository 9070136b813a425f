use Rattle.routine_judge.proofs.Beginning.{NoneBefore}
use Rattle.routine_judge.proofs.run.first_judged.Given as goal

abbrev pub invariant-loop-at : goal.invariant-loop-at
invariant-loop-at l = NoneBefore l.fn.events l.at
