use Rattle.routine_judge.specs.Spans.{IsHighest}
use Rattle.routine_judge.proofs.history.moments.Windows.highest.Given as goal

abbrev pub invariant-loop-at : goal.invariant-loop-at
invariant-loop-at l = IsHighest l.self.until.items l.at l.highest
