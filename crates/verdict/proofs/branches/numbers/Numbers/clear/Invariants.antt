use Rattle.std.proofs.Common.{◌≡◌, length, vec_len}
use Rattle.verdict.specs.Numbers.{AreListed}
use Rattle.verdict.proofs.branches.numbers.Numbers.clear.Given as goal

abbrev pub invariant-loop-line : goal.invariant-loop-line
invariant-loop-line l = AreListed l.self-inside.by_line.items l.self-inside.raised.items × (length l.self-inside.by_line.items ≡ length l.fn.self)

abbrev pub decreases-loop-line : goal.decreases-loop-line
decreases-loop-line l = vec_len l.self-inside.raised
