-- A core that has done nothing yet, and its seats.
use Rattle.std.specs.Prelude.{◌≡◌, ℕ, List, []}
use Rattle.program.specs.Sections.{Sections}
use Rattle.machine.specs.Replies.{shared_at_start}
use Rattle.machine.specs.SharedView.{RepresentsShared}
use Rattle.bus.specs.Finished.{AllAgree}
use Rattle.bus.specs.Replays.{CoreView}
use Rattle.bus.specs.Seats.{SeatView}
use Rattle.bus.specs.Starting.{AreAtStart}

-- the core began with these, and its history is empty
pub record IsNew (program : Sections) (start : List (List ℕ)) (harts capacity : ℕ) (core : CoreView) : Type 0 where
  pub program_is : core.program ≡ program
  pub start_is : core.start ≡ start
  pub harts_are : core.harts ≡ harts
  pub capacity_is : core.capacity ≡ capacity
  pub none : core.history ≡ []
  pub shows : RepresentsShared core.shared (shared_at_start program start)

-- so it is, and these are the seats of its harts
pub record AreNew (program : Sections) (start : List (List ℕ)) (harts capacity budget : ℕ) (core : CoreView) (seats : List SeatView) : Type 0 where
  pub new : IsNew program start harts capacity core
  pub at_start : AreAtStart program start harts budget seats
  pub agree : AllAgree core seats
