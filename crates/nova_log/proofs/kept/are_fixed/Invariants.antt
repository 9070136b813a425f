use Rattle.std.proofs.Common.{ℕ, ◌<◌, get_or}
use Rattle.nova_log.proofs.kept.are_fixed.Given as goal

abbrev pub invariant-loop-line : goal.invariant-loop-line
invariant-loop-line g l = record {
  below : (k : ℕ) → k < l.line-index → get_or l.lines k 0 < l.count;
  fixed : (k : ℕ) → k < l.line-index → g.F.FixedLines.fixed l.fixed (get_or l.lines k 0);
}
