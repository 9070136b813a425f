-- Seats in the order of their harts' numbers.
use Rattle.std.specs.Prelude.{◌≡◌, ◌⊎◌, ◌<◌, ◌≤◌, ℕ, List, Some, length, slice_get, IsPermutation}
use Rattle.bus.specs.declared.finish_fault.FinishFault.{FinishFault}
use Rattle.bus.specs.declared.finish_fault.FinishFault.TheVariants.{SeatMissing, SeatNumber, Foreign, Memory}
use Rattle.bus.specs.Ending.{AreNumbered, HasTooLarge, HasTwice, LacksSeat}
use Rattle.bus.specs.Seats.{SeatView}

-- the seat at this place is hart h's
pub record IsSeatOf (seats : List SeatView) (at h : ℕ) : Type 0 where
  pub seat : SeatView
  pub there : slice_get seats at ≡ Some seat
  pub number : seat.hart ≡ h

-- the seats have changed places, and each of the first n stands at its number
pub record ArePlacedUpTo (n : ℕ) (old new : List SeatView) : Type 0 where
  pub same : IsPermutation old new
  pub enough : n ≤ length new
  pub placed : (at : ℕ) (seat : SeatView) → at < n → slice_get new at ≡ Some seat → seat.hart ≡ at

-- the seats have changed places: there is one for each of so many harts, and it stands at its number
pub record ArePlaced (harts : ℕ) (old new : List SeatView) : Type 0 where
  pub same : IsPermutation old new
  pub count : length new ≡ harts
  pub numbered : (h : ℕ) (seat : SeatView) → slice_get new h ≡ Some seat → seat.hart ≡ h
  pub once : AreNumbered harts old

-- why the numbers of seats aren't those of so many harts
abbrev pub RefusesNumbers : ℕ → List SeatView → FinishFault → Type 0
RefusesNumbers harts seats SeatMissing = LacksSeat harts seats
RefusesNumbers harts seats SeatNumber = (LacksSeat harts seats → ⊥) × (HasTwice seats ⊎ HasTooLarge harts seats)
RefusesNumbers harts seats Foreign = ⊥
RefusesNumbers harts seats Memory = ⊥
