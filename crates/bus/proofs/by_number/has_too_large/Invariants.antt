use Rattle.bus.proofs.Numbering.{AreLow}
use Rattle.bus.proofs.by_number.has_too_large.Given as goal

abbrev pub invariant-loop-at : goal.invariant-loop-at
invariant-loop-at l = AreLow l.at l.seats l.harts
