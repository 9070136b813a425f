-- What all seats of a core make together.
use Rattle.std.specs.Prelude.{◌≡◌, ◌+◌, ◌++◌, ℕ, List, [], ◌∷◌, Some, length, map, replicate, slice_get}
use Rattle.machine.specs.declared.schedule.items.Step.{Step}
use Rattle.machine.specs.declared.schedule.items.Step.TheVariants.{Hart}
use Rattle.bus.specs.Agreeing.{Agrees}
use Rattle.bus.specs.Gathered.{gathered}
use Rattle.bus.specs.Replays.{CoreView}
use Rattle.bus.specs.Seats.{SeatView}

-- the steps after each seat's last request, by hart number
unfoldable pub last_steps : ℕ → List SeatView → List Step
last_steps h [] = []
last_steps h (seat ∷ seats) = replicate seat.since (Hart h) ++ last_steps (h + 1) seats

-- all steps of the seats: the order of the history, and then the last ones
abbrev pub all_of : CoreView → List SeatView → List Step
all_of core seats = gathered core.history (map (λ (seat : SeatView). seat.exchanges) seats) ++ last_steps 0 seats

-- a seat for each hart of the core, by its number, and each of them agrees
pub record AllAgree (core : CoreView) (seats : List SeatView) : Type 0 where
  pub count : length seats ≡ core.harts
  pub numbered : (h : ℕ) (seat : SeatView) → slice_get seats h ≡ Some seat → seat.hart ≡ h
  pub each : (h : ℕ) (seat : SeatView) → slice_get seats h ≡ Some seat → Agrees core seat
