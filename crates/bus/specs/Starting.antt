-- Seats at the start.
use Rattle.std.specs.Prelude.{◌≡◌, ℕ, List, [], map}
use Rattle.std.specs.List.{range_with_len}
use Rattle.hart.specs.Effect.{start}
use Rattle.machine.specs.Represents.{text_bytes}
use Rattle.program.specs.Sections.{Sections}
use Rattle.machine.specs.Histories.{text_of}
use Rattle.machine.specs.Replies.{starting_memory}
use Rattle.bus.specs.Seats.{SeatView}

-- the seat of hart h, whose program's text is loaded as this copy: it has made no step
abbrev pub seat_at_start : List ℕ → ℕ → List ℕ → ℕ → SeatView
seat_at_start text budget copy h = record {
  hart = h;
  text = text;
  budget = budget;
  made = 0;
  state = start h;
  copy = copy;
  exchanges = [];
  since = 0;
}

-- the seats of so many harts, by their number, each with the text of the program as it is in memory at the start
pub record AreAtStart (program : Sections) (lines : List (List ℕ)) (harts budget : ℕ) (seats : List SeatView) : Type 0 where
  pub copy : List ℕ
  pub loaded : text_bytes copy ≡ text_of (starting_memory program lines)
  pub seats_are : seats ≡ map (seat_at_start program.text budget copy) (range_with_len 0 harts)
