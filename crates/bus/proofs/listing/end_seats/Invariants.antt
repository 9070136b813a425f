use Rattle.bus.specs.Listed.{AreWhole}
use Rattle.bus.proofs.listing.end_seats.Given as goal

abbrev pub invariant-loop-place : goal.invariant-loop-place
invariant-loop-place l = AreWhole l.text l.place l.seats l.counts l.fn.runs l.runs
