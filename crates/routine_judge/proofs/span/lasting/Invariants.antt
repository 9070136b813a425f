use Rattle.std.proofs.Common.{◌≡◌, ◌+◌, length}
use Rattle.routine_judge.specs.SpanAnswers.{AreFullAnswers, AreLasting}
use Rattle.routine_judge.specs.Views.{JudgeView}
use Rattle.routine_judge.proofs.span.lasting.Given as goal

abbrev pub invariant-loop-at : goal.invariant-loop-at
invariant-loop-at l = record {
  lasts : (view : JudgeView) → view.events ≡ l.events → AreFullAnswers view l.first l.founds → AreLasting view l.first l.lasts.items;
  count : length l.lasts.items + 1 ≡ l.at;
}
