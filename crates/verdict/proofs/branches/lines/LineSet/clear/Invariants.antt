use Rattle.std.proofs.Common.{◌≡◌, length, vec_len}
use Rattle.verdict.specs.Numbers.{AreInList}
use Rattle.verdict.proofs.branches.lines.LineSet.clear.Given as goal

abbrev pub invariant-loop-line : goal.invariant-loop-line
invariant-loop-line l = AreInList l.self-inside.flags.items l.self-inside.lines.items × (length l.self-inside.flags.items ≡ length l.fn.self)

abbrev pub decreases-loop-line : goal.decreases-loop-line
decreases-loop-line l = vec_len l.self-inside.lines
