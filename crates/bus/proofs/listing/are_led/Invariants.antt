use Rattle.std.proofs.Common.{◌≡◌, ℕ, ◌<◌, Some, slice_get}
use Rattle.bus.specs.Leading.{IsLed}
use Rattle.bus.specs.Seats.{SeatView}
use Rattle.bus.proofs.listing.are_led.Given as goal

abbrev pub invariant-loop-place : goal.invariant-loop-place
invariant-loop-place l = (h : ℕ) (seat : SeatView) → h < l.place → slice_get l.seats h ≡ Some seat
    → IsLed seat.hart seat.copy seat.exchanges seat.since seat.state
