-- The account of what the seats of a core have made.
use Rattle.std.specs.Prelude.{◌≡◌, ℕ, List, map}
use Rattle.hart.specs.declared.state.HartState.{HartState}
use Rattle.machine.specs.declared.schedule.items.Item.{Item}
use Rattle.bus.specs.Finished.{AllAgree}
use Rattle.bus.specs.Listed.{IsAccountOf}
use Rattle.bus.specs.Replays.{CoreView}
use Rattle.bus.specs.Seats.{SeatView}

-- the seats agree with the core, the items and the numbers are their account, and these are the states of their harts
pub record IsAccounted (core : CoreView) (seats : List SeatView) (items : List Item) (numbers : List ℕ) (states : List HartState) : Type 0 where
  pub account : IsAccountOf core seats items numbers
  pub agree : AllAgree core seats
  pub states_are : states ≡ map (λ (seat : SeatView). seat.state) seats
