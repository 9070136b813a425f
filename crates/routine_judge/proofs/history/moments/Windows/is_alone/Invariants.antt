use Rattle.std.proofs.Common.{◌≡◌, ℕ, ◌<◌, get_or}
use Rattle.routine_judge.proofs.history.moments.Windows.is_alone.Given as goal

abbrev pub invariant-loop-at : goal.invariant-loop-at
invariant-loop-at l = (k : ℕ) → l.first < k → k < l.at → get_or l.self.until.items k 0 ≡ 0
