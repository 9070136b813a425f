use Rattle.bus.proofs.SameStart.{AreSameBelow}
use Rattle.bus.proofs.same_start.is_same_medium.Given as goal

abbrev pub invariant-loop-line : goal.invariant-loop-line
invariant-loop-line l = AreSameBelow l.line l.one l.other
