use Rattle.routine_judge.specs.Closing.{IsSame}
use Rattle.routine_judge.proofs.cuts.chain.least_cut_in.Given as goal

abbrev pub invariant-loop-moment : goal.invariant-loop-moment
invariant-loop-moment l = IsSame l.fn.routine l.routine
