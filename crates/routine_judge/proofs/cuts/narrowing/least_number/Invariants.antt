use Rattle.std.proofs.Common.{◌≡◌, length}
use Rattle.routine_judge.specs.Closing.{IsSame}
use Rattle.routine_judge.proofs.cuts.narrowing.least_number.Given as goal

abbrev pub invariant-loop-candidate : goal.invariant-loop-candidate
invariant-loop-candidate l = (length l.images ≡ length l.fn.images) × IsSame l.fn.routine l.routine
