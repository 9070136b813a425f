-- Why a call of the bus is refused.
use Rattle.std.specs.Prelude.{◌≡◌, ◌<◌, ◌≤◌, ℕ, length}
use Rattle.hart.specs.declared.need.Request.{Request}
use Rattle.machine.specs.Represents.{text_bytes}
use Rattle.machine.specs.Replies.{events_of}
use Rattle.machine.specs.SharedView.{reply_to}
use Rattle.machine.specs.declared.shared_memory.fault.StepFault.{StepFault}
use Rattle.machine.specs.declared.shared_memory.fault.StepFault.TheVariants.{NoSuchHart, NoSuchLine, TraceFull, Memory, OutOfLimits}
use Rattle.bus.specs.Alone.{Asks}
use Rattle.bus.specs.Replays.{CoreView}
use Rattle.bus.specs.Seats.{SeatView}

-- a request of hart h would make an event, and the trace is full
pub record LacksRoom (core : CoreView) (h : ℕ) (request : Request) : Type 0 where
  pub event : length (events_of h request (reply_to core.shared h request)) ≡ 1
  pub full : length core.shared.trace ≡ 65536

-- why a request of hart h, which is one of the core's, isn't answered: its event finds a full trace, or memory was refused
abbrev pub RefusesTelling : CoreView → ℕ → Request → StepFault → Type 0
RefusesTelling core h request TraceFull = LacksRoom core h request
RefusesTelling core h request Memory = Unit {0}
RefusesTelling core h request NoSuchHart = ⊥
RefusesTelling core h request NoSuchLine = ⊥
RefusesTelling core h request OutOfLimits = ⊥

-- the request of the seat's next step would make an event, and the trace is full
pub record LacksRoomFor (core : CoreView) (seat : SeatView) : Type 0 where
  pub request : Request
  pub asks : Asks (text_bytes seat.copy) seat.state request
  pub room : LacksRoom core seat.hart request

-- why the request of a seat's next step isn't served: the core has no such hart; or it has, and the request's event finds
-- a full trace, or memory was refused
abbrev pub RefusesSeat : CoreView → SeatView → StepFault → Type 0
RefusesSeat core seat NoSuchHart = core.harts ≤ seat.hart
RefusesSeat core seat TraceFull = (seat.hart < core.harts) × LacksRoomFor core seat
RefusesSeat core seat Memory = seat.hart < core.harts
RefusesSeat core seat NoSuchLine = ⊥
RefusesSeat core seat OutOfLimits = ⊥

-- why a line isn't evicted: it isn't there; or it is, and memory was refused
abbrev pub RefusesLine : CoreView → ℕ → StepFault → Type 0
RefusesLine core line NoSuchLine = length core.start ≤ line
RefusesLine core line Memory = Unit {0}
RefusesLine core line NoSuchHart = ⊥
RefusesLine core line TraceFull = ⊥
RefusesLine core line OutOfLimits = ⊥
