-- What comes of gathering what seats have made, and why it may not be gathered.
use Rattle.std.specs.Prelude.{◌≡◌, ◌≢◌, ◌⊎◌, ◌<◌, ◌≤◌, ℕ, List, Some, map, slice_get}
use Rattle.std.specs.Prelude.{IsPermutation}
use Rattle.machine.specs.Left.{IsLeftBy}
use Rattle.machine.specs.Run.{started}
use Rattle.machine.specs.Recorded.{RecordedView, Records}
use Rattle.machine.specs.Steps.{all_steps}
use Rattle.bus.specs.declared.finish_fault.FinishFault.{FinishFault}
use Rattle.bus.specs.declared.finish_fault.FinishFault.TheVariants.{SeatMissing, SeatNumber, Foreign, Memory}
use Rattle.bus.specs.Agreeing.{Agrees}
use Rattle.bus.specs.Finished.{AllAgree, all_of}
use Rattle.bus.specs.Replays.{CoreView}
use Rattle.bus.specs.Seats.{SeatView}

-- no seat of these is hart h's
abbrev pub HasNoSeat : List SeatView → ℕ → Type 0
HasNoSeat seats h = (at : ℕ) (seat : SeatView) → slice_get seats at ≡ Some seat → seat.hart ≢ h

-- a hart of so many has no seat
abbrev pub LacksSeat : ℕ → List SeatView → Type 0
LacksSeat harts seats = (h : ℕ) × (h < harts) × HasNoSeat seats h

-- two of the seats have the same number
pub record HasTwice (seats : List SeatView) : Type 0 where
  pub one : ℕ
  pub other : ℕ
  pub at_one : SeatView
  pub at_other : SeatView
  pub apart : one < other
  pub first : slice_get seats one ≡ Some at_one
  pub second : slice_get seats other ≡ Some at_other
  pub same : at_one.hart ≡ at_other.hart

-- a seat is that of no hart of so many
pub record HasTooLarge (harts : ℕ) (seats : List SeatView) : Type 0 where
  pub at : ℕ
  pub seat : SeatView
  pub there : slice_get seats at ≡ Some seat
  pub large : harts ≤ seat.hart

-- each of so many harts has one seat, and no seat is that of another
pub record AreNumbered (harts : ℕ) (seats : List SeatView) : Type 0 where
  pub each : LacksSeat harts seats → ⊥
  pub once : HasTwice seats → ⊥
  pub below : HasTooLarge harts seats → ⊥

-- each seat agrees with the core
abbrev pub EachAgrees : CoreView → List SeatView → Type 0
EachAgrees core seats = (at : ℕ) (seat : SeatView) → slice_get seats at ≡ Some seat → Agrees core seat

-- what is recorded is one run from the core's start: it has the order of the core's history, with each seat's register
-- steps right before the request that they led to, and ends in each seat's state and with the core's trace
pub record IsGathered (core : CoreView) (seats : List SeatView) (recorded : RecordedView) : Type 0 where
  pub by_number : List SeatView
  pub same : IsPermutation seats by_number
  pub agree : AllAgree core by_number
  pub start : recorded.start ≡ core.start
  pub capacity : recorded.capacity ≡ core.capacity
  pub steps : all_steps recorded.items ≡ all_of core by_number
  pub harts : recorded.harts ≡ map (λ (seat : SeatView). seat.state) by_number
  pub trace : recorded.trace ≡ core.shared.trace
  pub records : Records (started core.program core.start core.harts) recorded
  pub left_is : IsLeftBy (started core.program core.start core.harts) (all_steps recorded.items) recorded.capacity recorded.left

-- why seats aren't gathered, the first of these that holds: a hart of the core has no seat; a number stands twice or is too
-- large; a seat doesn't agree with the core; or memory was refused
abbrev pub RefusesGathering : CoreView → List SeatView → FinishFault → Type 0
RefusesGathering core seats SeatMissing = LacksSeat core.harts seats
RefusesGathering core seats SeatNumber =
    (LacksSeat core.harts seats → ⊥) × (HasTwice seats ⊎ HasTooLarge core.harts seats)
RefusesGathering core seats Foreign = AreNumbered core.harts seats × (EachAgrees core seats → ⊥)
RefusesGathering core seats Memory = AreNumbered core.harts seats
