use Rattle.routine_judge.specs.SpanAnswers.{IsBehind}
use Rattle.routine_judge.proofs.span.SpanAnswers.behind_lasting.Given as goal

abbrev pub invariant-loop-at : goal.invariant-loop-at
invariant-loop-at l = IsBehind l.self.lasts.items l.self.first l.moment l.at l.from
