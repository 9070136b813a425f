use Rattle.bus.specs.Numbering.{ArePlacedUpTo}
use Rattle.bus.proofs.by_number.place_seats.Given as goal

abbrev pub invariant-loop-hart : goal.invariant-loop-hart
invariant-loop-hart l = ArePlacedUpTo l.hart l.fn.seats l.seats
