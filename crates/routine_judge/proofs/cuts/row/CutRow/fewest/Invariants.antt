use Rattle.std.proofs.Common.{ℕ, ◌<◌, Some}
use Rattle.routine_judge.specs.Chains.{AreSettled}
use Rattle.routine_judge.proofs.cuts.row.CutRow.fewest.Given as goal

abbrev pub invariant-loop-cuts : goal.invariant-loop-cuts
invariant-loop-cuts g l = (k : ℕ) → k < l.cuts → AreSettled l.self.goes_on l.self.run.now (Some k) l.self.first l.self.end
