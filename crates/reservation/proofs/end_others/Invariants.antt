use Rattle.reservation.proofs.Ended.{EndedBelow}
use Rattle.reservation.proofs.end_others.Given as goal

abbrev pub invariant-loop-other : goal.invariant-loop-other
invariant-loop-other l = EndedBelow l.other l.hart l.line l.fn.lines l.lines
