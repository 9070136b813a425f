use Rattle.bus.proofs.Numbering.{IsNoneBelow}
use Rattle.bus.proofs.by_number.find_seat.Given as goal

abbrev pub invariant-loop-at : goal.invariant-loop-at
invariant-loop-at l = IsNoneBelow l.at l.seats l.hart
