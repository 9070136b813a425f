-- What a seat's own list says of its hart, and when it is the hart's part of a history.
use Rattle.std.specs.Prelude.{◌≡◌, ◌≤◌, ◌<◌, ◌+◌, ◌%◌, ◌^◌, ◌++◌, ℕ, List, [], ◌∷◌, Bool, true, false, Some, eqb, length, map, replicate, reverse, slice_get, slice_index_or, slice_set, take}
use Rattle.hart.specs.declared.need.Request.{Request}
use Rattle.hart.specs.declared.need.Reply.{Reply}
use Rattle.machine.specs.Represents.{text_bytes}
use Rattle.machine.specs.Steps.{all_steps}
use Rattle.machine.specs.declared.schedule.items.Item.{Item}
use Rattle.machine.specs.declared.schedule.items.Step.TheVariants.{Hart, Evict}
use Rattle.machine.specs.declared.shared_memory.history.Entry.{Entry}
use Rattle.machine.specs.declared.shared_memory.history.Entry.TheVariants.{Asked, Evicted}
use Rattle.machine.specs.Replies.{events_of}
use Rattle.store_trace.specs.declared.event.Event.{Event}
use Rattle.bus.specs.declared.exchange.Exchange.{Exchange}
use Rattle.bus.specs.declared.runs.Runs.{Runs}
use Rattle.bus.specs.Finished.{last_steps}
use Rattle.bus.specs.Following.{AreGathered, IsScheduleOf, hart_count, oldest}
use Rattle.bus.specs.Gathered.{earlier, gathered}
use Rattle.bus.specs.Leading.{IsLed}
use Rattle.bus.specs.Replays.{CoreView}
use Rattle.bus.specs.Seats.{AreCounted, SeatView}

-- the newest exchange is this request with this reply, and so on with those before it
abbrev pub NewestIs : Request → Reply → (List Exchange → Type 0) → List Exchange → Type 0
NewestIs request reply Before [] = ⊥
NewestIs request reply Before (x ∷ xs) = (x.request ≡ request) × (x.reply ≡ reply) × Before xs

abbrev pub NewestIf : Bool → Request → Reply → (List Exchange → Type 0) → List Exchange → Type 0
NewestIf true request reply Before xs = NewestIs request reply Before xs
NewestIf false request reply Before xs = Before xs

-- these exchanges have the requests of hart h in the history and the replies to them, the newest first in both
abbrev pub IsListOf : ℕ → List Entry → List Exchange → Type 0
IsListOf h [] xs = xs ≡ []
IsListOf h (Evicted line ∷ before) xs = IsListOf h before xs
IsListOf h (Asked g request reply ∷ before) xs = NewestIf (eqb g h) request reply (IsListOf h before) xs

-- so many of the seat's exchanges, the oldest, are those of hart h in the history
pub record IsListed (h : ℕ) (history : List Entry) (seat : SeatView) (n : ℕ) : Type 0 where
  pub place : n ≤ length seat.exchanges
  pub list : IsListOf h history (oldest n seat.exchanges)

-- of each seat so many exchanges, the oldest
abbrev pub all_taken : List SeatView → List ℕ → List (List Exchange)
all_taken [] counts = []
all_taken (seat ∷ seats) [] = []
all_taken (seat ∷ seats) (n ∷ counts) = oldest n seat.exchanges ∷ all_taken seats counts

-- for each event of a history, the oldest first, how many hart steps there are through its own, by these exchanges of the harts
unfoldable pub numbered : List Entry → List (List Exchange) → List ℕ
numbered [] lists = []
numbered (Evicted line ∷ before) lists = numbered before lists
numbered (Asked h request reply ∷ before) lists =
    numbered before (slice_set lists h (earlier (slice_index_or lists h [])))
    ++ map (λ (event : Event). hart_count (gathered (Asked h request reply ∷ before) lists)) (events_of h request reply)

-- a number as a machine word of 32 bits has it
abbrev pub in_word : ℕ → ℕ
in_word n = n % 2 ^ 32

-- the steps are those of the history by these exchanges, and the numbers those of its events
pub record AreRun (history : List Entry) (lists : List (List Exchange)) (runs : Runs) : Type 0 where
  pub gathered : AreGathered history lists (all_steps runs.schedule)
  pub made : runs.made ≡ in_word (hart_count (all_steps runs.schedule))
  pub numbers : runs.numbers.items ≡ map in_word (numbered history lists)

-- so many exchanges of each seat are those of its hart in the history, which is run by them
pub record AreListed (seats : List SeatView) (counts : List ℕ) (history : List Entry) (runs : Runs) : Type 0 where
  pub each : (h : ℕ) (seat : SeatView) (n : ℕ) → slice_get seats h ≡ Some seat → slice_get counts h ≡ Some n → IsListed h history seat n
  pub run : AreRun history (all_taken seats counts) runs

-- the seat's exchange at place n, from the oldest on, is this request of hart h with this reply; m is the place after it, and its
-- steps come after the others, and the number of its event, if it makes one
pub record IsNextOf (seat : SeatView) (n m h : ℕ) (request : Request) (reply : Reply) (old new : Runs) : Type 0 where
  pub first : Exchange
  pub there : slice_get (reverse seat.exchanges) n ≡ Some first
  pub asked : first.request ≡ request
  pub told : first.reply ≡ reply
  pub next : m ≡ n + 1
  pub added : all_steps new.schedule ≡ (all_steps old.schedule ++ replicate first.steps (Hart h)) ++ Hart h ∷ []
  pub made : new.made ≡ in_word (in_word (old.made + first.steps) + 1)
  pub numbers : new.numbers.items ≡ old.numbers.items ++ map (λ (event : Event). new.made) (events_of h request reply)

-- an eviction comes after the other steps
pub record EvictsAlso (line : ℕ) (old new : Runs) : Type 0 where
  pub added : all_steps new.schedule ≡ all_steps old.schedule ++ Evict line ∷ []
  pub made : new.made ≡ old.made
  pub numbers : new.numbers.items ≡ old.numbers.items

-- the exchanges of a seat aren't those of its hart in the history
pub record IsUnlisted (seats : List SeatView) (history : List Entry) : Type 0 where
  pub hart : ℕ
  pub seat : SeatView
  pub there : slice_get seats hart ≡ Some seat
  pub not : IsListOf hart history seat.exchanges → ⊥

-- the seat was loaded with this text, and these are all of its exchanges
pub record IsWhole (text : List ℕ) (seat : SeatView) (n : ℕ) : Type 0 where
  pub loaded : seat.text ≡ text
  pub used : n ≡ length seat.exchanges
  pub counted : AreCounted seat.made seat.budget seat.since seat.exchanges

-- so are the first n seats, and their last steps come after the others; the numbers stay
pub record AreWhole (text : List ℕ) (n : ℕ) (seats : List SeatView) (counts : List ℕ) (old new : Runs) : Type 0 where
  pub each : (h : ℕ) (seat : SeatView) (k : ℕ) → h < n → slice_get seats h ≡ Some seat → slice_get counts h ≡ Some k → IsWhole text seat k
  pub added : all_steps new.schedule ≡ all_steps old.schedule ++ last_steps 0 (take n seats)
  pub numbers : new.numbers.items ≡ old.numbers.items

-- the seat wasn't loaded with this text, or these aren't all of its exchanges
abbrev pub IsNotWhole : List ℕ → SeatView → ℕ → Type 0
IsNotWhole text seat n = seat.text ≡ text → n ≡ length seat.exchanges → ⊥

-- a seat is not so
pub record AreNotWhole (text : List ℕ) (seats : List SeatView) (counts : List ℕ) : Type 0 where
  pub hart : ℕ
  pub seat : SeatView
  pub count : ℕ
  pub there : slice_get seats hart ≡ Some seat
  pub beside : slice_get counts hart ≡ Some count
  pub not : IsNotWhole text seat count

-- the lists of seats that were loaded with the core's text are those of their harts in its history: the items are what they
-- have made, and the numbers those of its events
pub record IsAccountOf (core : CoreView) (seats : List SeatView) (items : List Item) (numbers : List ℕ) : Type 0 where
  pub loaded : (h : ℕ) (seat : SeatView) → slice_get seats h ≡ Some seat → seat.text ≡ core.program.text
  pub list : (h : ℕ) (seat : SeatView) → slice_get seats h ≡ Some seat → IsListOf seat.hart core.history seat.exchanges
  pub schedule : IsScheduleOf core seats items
  pub numbers_are : numbers ≡ numbered core.history (map (λ (seat : SeatView). seat.exchanges) seats)

-- a seat's hart doesn't fetch this text
pub record HasOtherCopy (copy : List ℕ) (seats : List SeatView) : Type 0 where
  pub hart : ℕ
  pub seat : SeatView
  pub there : slice_get seats hart ≡ Some seat
  pub not : text_bytes seat.copy ≡ text_bytes copy → ⊥

-- the exchanges and the steps of each seat lead its hart from its start to where it is, by one text
abbrev pub AllLed : List SeatView → Type 0
AllLed seats = (h : ℕ) (seat : SeatView) → slice_get seats h ≡ Some seat → IsLed seat.hart seat.copy seat.exchanges seat.since seat.state
