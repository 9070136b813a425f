use Rattle.std.proofs.Common.{◌≡◌, length, nat_lt}
use Rattle.std.specs.Prelude.{◌&&◌}
use Rattle.routine_judge.specs.RightAnswers.{is_among}
use Rattle.routine_judge.specs.RightMoments.{AreGivenBy}
use Rattle.routine_judge.proofs.right_moments.given_by.Given as goal

abbrev pub invariant-loop-at : goal.invariant-loop-at
invariant-loop-at l = record {
  program : l.routine.program ≡ l.fn.run.routine;
  lines : l.routine.lines ≡ length l.fn.run.start;
  given : AreGivenBy l.fn.run (λ i. is_among l.window l.moment i && nat_lt i l.at) l.right.items;
}
