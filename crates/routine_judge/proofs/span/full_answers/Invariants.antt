use Rattle.std.proofs.Common.{◌≡◌, ◌+◌, length}
use Rattle.routine_judge.specs.SpanAnswers.{AreFullAnswers}
use Rattle.routine_judge.proofs.span.full_answers.Given as goal

abbrev pub invariant-loop-moment : goal.invariant-loop-moment
invariant-loop-moment l = record {
  program : l.routine.program ≡ l.fn.run.routine;
  lines : l.routine.lines ≡ length l.fn.run.start;
  answers : AreFullAnswers l.fn.run l.first l.founds.items;
  count : l.first + length l.founds.items ≡ l.moment;
}
