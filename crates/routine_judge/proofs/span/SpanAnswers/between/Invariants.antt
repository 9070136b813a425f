use Rattle.std.proofs.Common.{◌&&◌, nat_lt}
use Rattle.std.specs.Prelude.{nat_le}
use Rattle.routine_judge.specs.Gathered.{AreAnswers}
use Rattle.routine_judge.specs.RightAnswers.{of_moments}
use Rattle.routine_judge.specs.SpanAnswers.{IsSpan}
use Rattle.routine_judge.specs.Views.{JudgeView}
use Rattle.routine_judge.proofs.span.SpanAnswers.between.Given as goal

abbrev pub invariant-loop-moment : goal.invariant-loop-moment
invariant-loop-moment l = (view : JudgeView) → IsSpan view l.self → AreAnswers view (of_moments (λ i. nat_le l.from i && nat_lt i l.moment)) l.right
