-- How the harts of seats are run once more, in the order of a core's history.
use Rattle.std.specs.Prelude.{◌≡◌, ◌<◌, ◌≤◌, ◌+◌, ◌^◌, ℕ, List, [], ◌∷◌, Some, true, false, length, map, reverse, slice_get, slice_index_or, take}
use Rattle.hart.specs.Effect.{start}
use Rattle.hart.specs.declared.state.HartState.{HartState}
use Rattle.hart.specs.declared.need.Request.{Request}
use Rattle.hart.specs.declared.need.Reply.{Reply}
use Rattle.line_memory.specs.Memory.{Memory}
use Rattle.machine.specs.Left.{IsLeftBy}
use Rattle.machine.specs.Run.{started}
use Rattle.machine.specs.Represents.{text_bytes}
use Rattle.machine.specs.Recorded.{RecordedView, Records}
use Rattle.machine.specs.Grammar.{hart_steps}
use Rattle.machine.specs.Steps.{all_steps}
use Rattle.machine.specs.declared.schedule.items.Item.{Item}
use Rattle.machine.specs.declared.schedule.items.Step.{Step}
use Rattle.machine.specs.declared.schedule.items.Step.TheVariants.{Hart, Evict}
use Rattle.machine.specs.Histories.{fetched_text, is_renewing, replayed, text_of}
use Rattle.machine.specs.Replies.{reply_after, starting_memory}
use Rattle.machine.specs.declared.shared_memory.history.Entry.{Entry}
use Rattle.machine.specs.declared.shared_memory.history.Entry.TheVariants.{Asked}
use Rattle.bus.specs.declared.exchange.Exchange.{Exchange}
use Rattle.bus.specs.declared.finish_fault.FinishFault.{FinishFault}
use Rattle.bus.specs.declared.finish_fault.FinishFault.TheVariants.{SeatMissing, SeatNumber, Foreign, Memory as NoMemory}
use Rattle.bus.specs.declared.follower.Follower.{Follower}
use Rattle.bus.specs.Agreeing.{Agrees, Exchanges, IsPart}
use Rattle.bus.specs.Alone.{GoesAlone}
use Rattle.bus.specs.Finished.{AllAgree, all_of}
use Rattle.bus.specs.Gathered.{gathered}
use Rattle.bus.specs.Replays.{CoreView, IsReplay, common_of, replay}
use Rattle.bus.specs.Seats.{SeatView, steps_in}
use Rattle.bus.specs.Stepping.{BusView}
use Rattle.bus.specs.Together.{count_of}

-- the oldest n of a list, the newest first
abbrev pub oldest : ℕ → List Exchange → List Exchange
oldest n xs = reverse (take n (reverse xs))

-- of a seat's exchanges those that were made again
abbrev pub made_of : SeatView → Follower → List Exchange
made_of seat f = oldest f.next seat.exchanges

-- the seat's first exchanges were made again: they are its hart's part of the history, and have led to where the follower is
pub record Follows (core : CoreView) (seat : SeatView) (f : Follower) : Type 0 where
  pub place : f.next ≤ length seat.exchanges
  pub part : IsPart (starting_memory core.program core.start) seat.hart core.history (made_of seat f) f.state
  pub copy : text_bytes f.copy ≡ fetched_text (starting_memory core.program core.start) seat.hart core.history

-- a seat for each of so many harts, by its number, and a follower for each seat
pub record ArePaired (harts : ℕ) (seats : List SeatView) (fs : List Follower) : Type 0 where
  pub count : length seats ≡ harts
  pub paired : length fs ≡ length seats
  pub numbered : (h : ℕ) (seat : SeatView) → slice_get seats h ≡ Some seat → seat.hart ≡ h

-- each follower follows its seat
abbrev pub AllFollow : CoreView → List SeatView → List Follower → Type 0
AllFollow core seats fs = (h : ℕ) (seat : SeatView) (f : Follower) → slice_get seats h ≡ Some seat → slice_get fs h ≡ Some f → Follows core seat f

-- how many steps all lists have together
abbrev pub steps_of_all : List (List Exchange) → ℕ
steps_of_all [] = 0
steps_of_all (xs ∷ lists) = steps_in xs + steps_of_all lists

-- how many of the steps are those of harts
abbrev pub hart_count : List Step → ℕ
hart_count [] = 0
hart_count (Hart h ∷ steps) = 1 + hart_count steps
hart_count (Evict line ∷ steps) = hart_count steps

-- the steps are those of a history, by these exchanges of the harts; each hart's are as many as its exchanges have
pub record AreGathered (history : List Entry) (lists : List (List Exchange)) (steps : List Step) : Type 0 where
  pub steps_are : steps ≡ gathered history lists
  pub made : (h : ℕ) → count_of h steps ≡ steps_in (slice_index_or lists h [])
  pub total : hart_count steps ≡ steps_of_all lists

-- a hart makes its seat's next exchange again, which is this request with this reply
pub record MakesAgain (old new : CoreView) (seat : SeatView) (before after : Follower) (request : Request) (reply : Reply) : Type 0 where
  pub first : Exchange
  pub there : slice_get (reverse seat.exchanges) before.next ≡ Some first
  pub asked : first.request ≡ request
  pub told : first.reply ≡ reply
  pub next : after.next ≡ before.next + 1
  pub exchanges : Exchanges (text_bytes before.copy) before.state first after.state
  pub core : new ≡ record old { shared = new.shared; history = Asked seat.hart request reply ∷ old.history }
  pub renewed : is_renewing request ≡ true → text_bytes after.copy ≡ text_of (replayed (starting_memory old.program old.start) new.history)
  pub kept : is_renewing request ≡ false → after.copy ≡ before.copy

-- an entry joins the core's history
pub record IsFollowed (old new : CoreView) (seats : List SeatView) (before after : List Follower) (entry : Entry) : Type 0 where
  pub core : new ≡ record old { shared = new.shared; history = entry ∷ old.history }
  pub follow : AllFollow old seats before → AllFollow new seats after

-- a whole history, which has its newest entry first, has joined the core's
pub record HaveFollowed (old new : CoreView) (seats : List SeatView) (before after : List Follower) (history : List Entry) : Type 0 where
  pub core : new ≡ record old { shared = new.shared; history = history }
  pub follow : AllFollow old seats before → AllFollow new seats after

-- all of the seat's exchanges were made again, and its last steps lead to the seat's state
pub record EndsAt (seat : SeatView) (f : Follower) : Type 0 where
  pub used : f.next ≡ length seat.exchanges
  pub alone : GoesAlone (text_bytes f.copy) seat.since f.state seat.state
  pub copy : f.copy ≡ seat.copy

-- so they were of each of the first n seats
abbrev pub AllEnd : ℕ → List SeatView → List Follower → Type 0
AllEnd n seats fs = (h : ℕ) (seat : SeatView) (f : Follower) → h < n → slice_get seats h ≡ Some seat → slice_get fs h ≡ Some f → EndsAt seat f

-- the follower of hart h at the start
abbrev pub follower_at_start : List ℕ → ℕ → Follower
follower_at_start copy h = record { next = 0; state = start h; copy = copy }

-- the items are what all of the seats have made, each of which has made no more steps than its budget
pub record IsScheduleOf (core : CoreView) (seats : List SeatView) (items : List Item) : Type 0 where
  pub steps : all_steps items ≡ all_of core seats
  pub few : hart_steps items < 2 ^ 32
  pub made : (h : ℕ) (seat : SeatView) → slice_get seats h ≡ Some seat → count_of h (all_steps items) ≡ seat.made
  pub within : (h : ℕ) (seat : SeatView) → slice_get seats h ≡ Some seat → seat.made ≤ seat.budget

-- what seats have made, by their numbers, is recorded as one run; as many of its steps are each hart's as the hart's seat has
-- made, which are no more than its budget
pub record AreRecorded (core : CoreView) (seats : List SeatView) (recorded : RecordedView) : Type 0 where
  pub agree : AllAgree core seats
  pub start_is : recorded.start ≡ core.start
  pub capacity : recorded.capacity ≡ core.capacity
  pub steps : all_steps recorded.items ≡ all_of core seats
  pub harts : recorded.harts ≡ map (λ (seat : SeatView). seat.state) seats
  pub trace : recorded.trace ≡ core.shared.trace
  pub made : (h : ℕ) (seat : SeatView) → slice_get seats h ≡ Some seat → count_of h (all_steps recorded.items) ≡ seat.made
  pub within : (h : ℕ) (seat : SeatView) → slice_get seats h ≡ Some seat → seat.made ≤ seat.budget
  pub records : Records (started core.program core.start core.harts) recorded
  pub left_is : IsLeftBy (started core.program core.start core.harts) (all_steps recorded.items) recorded.capacity recorded.left

-- the core is that of the bus, as it began
pub record IsCoreOf (bus : BusView) (core : CoreView) : Type 0 where
  pub program : core.program ≡ bus.program
  pub start_is : core.start ≡ bus.start
  pub harts : core.harts ≡ bus.harts
  pub capacity : core.capacity ≡ bus.capacity

-- the hart makes no such number of steps alone
abbrev pub GoesNot : Memory → ℕ → HartState → Type 0
GoesNot text n s = (t : HartState) → GoesAlone text n s t → ⊥

-- the seat's next exchange isn't this request with this reply, though memory would give it; or the hart doesn't make it
abbrev pub CannotMake : CoreView → SeatView → Follower → Request → Reply → Type 0
CannotMake core seat f request reply = (x : Exchange) (t : HartState) → slice_get (reverse seat.exchanges) f.next ≡ Some x → x.request ≡ request
    → x.reply ≡ reply → reply ≡ reply_after (common_of core) seat.hart request → Exchanges (text_bytes f.copy) f.state x t → ⊥

-- the seat of the hart that asked can't make its request
pub record CannotFollow (core : CoreView) (seats : List SeatView) (fs : List Follower) (entry : Entry) : Type 0 where
  pub hart : ℕ
  pub request : Request
  pub reply : Reply
  pub seat : SeatView
  pub follower : Follower
  pub asked : entry ≡ Asked hart request reply
  pub there : slice_get seats hart ≡ Some seat
  pub beside : slice_get fs hart ≡ Some follower
  pub cannot : CannotMake core seat follower request reply

-- where a core with this history began as that one, not all seats agree with it
abbrev pub AreForeign : CoreView → List SeatView → List Entry → Type 0
AreForeign core seats history = (full : CoreView) → full.program ≡ core.program → full.start ≡ core.start → full.history ≡ history
    → (replay full.program full.start full.history).history ≡ full.history
    → ((h : ℕ) (seat : SeatView) → slice_get seats h ≡ Some seat → Agrees full seat) → ⊥

-- the seat's last steps don't lead to the state of its hart, after all of its exchanges
abbrev pub CannotEnd : SeatView → Follower → Type 0
CannotEnd seat f = f.next ≡ length seat.exchanges → GoesAlone (text_bytes f.copy) seat.since f.state seat.state
    → text_bytes f.copy ≡ text_bytes seat.copy → ⊥

pub record EndsNot (seats : List SeatView) (fs : List Follower) : Type 0 where
  pub hart : ℕ
  pub seat : SeatView
  pub follower : Follower
  pub there : slice_get seats hart ≡ Some seat
  pub beside : slice_get fs hart ≡ Some follower
  pub cannot : CannotEnd seat follower

-- why what seats have made isn't made again: memory was refused, or this holds
abbrev pub IfForeign : Type 0 → FinishFault → Type 0
IfForeign P SeatMissing = ⊥
IfForeign P SeatNumber = ⊥
IfForeign P Foreign = P
IfForeign P NoMemory = Unit {0}

-- the core is one at the start of that one
pub record IsFreshOf (core fresh : CoreView) : Type 0 where
  pub program : fresh.program ≡ core.program
  pub start_is : fresh.start ≡ core.start
  pub harts : fresh.harts ≡ core.harts
  pub none : fresh.history ≡ []
  pub replay_is : IsReplay fresh.program fresh.start fresh.history fresh.shared

-- the exchange at this place, from the oldest on, isn't this request with this reply
pub record IsNotNext (xs : List Exchange) (place : ℕ) (request : Request) (reply : Reply) : Type 0 where
  pub not : (x : Exchange) → slice_get (reverse xs) place ≡ Some x → x.request ≡ request → x.reply ≡ reply → ⊥
