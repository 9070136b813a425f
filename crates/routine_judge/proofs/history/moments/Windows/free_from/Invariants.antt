use Rattle.routine_judge.proofs.Lasting.{IsFreeUpTo}
use Rattle.routine_judge.proofs.history.moments.Windows.free_from.Given as goal

abbrev pub invariant-loop-at : goal.invariant-loop-at
invariant-loop-at l = IsFreeUpTo l.events l.self.until.items l.moment l.hart l.at l.latest
