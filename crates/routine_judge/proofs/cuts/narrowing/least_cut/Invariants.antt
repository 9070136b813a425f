use Rattle.std.proofs.Common.{◌≡◌, length}
use Rattle.routine_judge.specs.Closing.{IsSame}
use Rattle.routine_judge.proofs.cuts.narrowing.least_cut.Given as goal

abbrev pub invariant-loop-entry : goal.invariant-loop-entry
invariant-loop-entry l = (length l.images ≡ length l.at.medium.now) × IsSame l.fn.routine l.routine
