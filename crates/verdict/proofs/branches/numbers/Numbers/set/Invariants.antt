use Rattle.std.proofs.Common.{◌≡◌, length}
use Rattle.verdict.proofs.Tables.{IsOnWay}
use Rattle.verdict.proofs.branches.numbers.Numbers.set.Given as goal

abbrev pub invariant-loop-next : goal.invariant-loop-next
invariant-loop-next l = IsOnWay l.entries l.at l.next l.self × (length l.self ≡ length l.fn.self)

abbrev pub decreases-loop-next : goal.decreases-loop-next
decreases-loop-next l = l.next
