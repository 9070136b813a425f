use Rattle.std.proofs.Common.{◌≡◌, map, take}
use Rattle.bus.specs.Seats.{SeatView}
use Rattle.bus.proofs.ending.states_of.Given as goal

abbrev pub invariant-loop-place : goal.invariant-loop-place
invariant-loop-place l = l.states.items ≡ map (λ (seat : SeatView). seat.state) (take l.place l.seats)
