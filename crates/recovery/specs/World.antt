-- What a recovery routine has round it, and what its requests do to that: the same as in Run, over the history of hart 0 alone.
use Rattle.std.specs.Prelude.{◌≡◌, ℕ, ◌+◌, ◌++◌, ◌∷◌, [], ◌<◌, ◌≤◌, List, Option, Some, None, Bool, true, false, eqb, length, nat_le, slice_index, if◌then◌else◌}
use Rattle.line_memory.specs.Memory.{stored_to}
use Rattle.line_memory.specs.declared.TheConstants.{PERSISTENT_BASE}
use Rattle.store_trace.specs.declared.event.Event.{Event}
use Rattle.hart.specs.declared.need.Request.{Request}
use Rattle.hart.specs.declared.need.Reply.{Reply}
use Rattle.hart.specs.declared.need.Reply.TheVariants.{Done}
use Rattle.reservation.specs.Reserved.{Call, is_reserved}
use Rattle.machine.specs.declared.shared_memory.history.Entry.TheVariants.{Asked}
use Rattle.machine.specs.Histories.{calls_of, memory_after, written}
use Rattle.machine.specs.Replies.{events_of, events_of_write, replied}
use Rattle.recovery.specs.Memory.{HeldView, memory_of}
use Rattle.recovery.specs.Asking.{asked_by, with_written}
use Rattle.verdict.specs.declared.branches.question.Question.{Question}
use Rattle.recovery.specs.declared.world.Served.{Served}
use Rattle.recovery.specs.declared.world.Served.TheVariants.{Full, Replied}

-- what a contract sees of it: the memory, the line of the address space that hart 0 has reserved, how many events it made, whether they are
-- kept, and these then, which bytes of each line it has stored, and what it asked, the oldest first
pub record WorldView : Type 0 where
  pub held : HeldView
  pub reserved : Option ℕ
  pub events : ℕ
  pub keeps : Bool
  pub trace : List Event
  pub own : List ℕ
  pub asked : List Question

-- whether hart 0 has reserved line l
abbrev pub is_line : Option ℕ → ℕ → Bool
is_line None l = false
is_line (Some line) l = eqb line l

-- the word names the line that hart 0 has reserved by these calls
abbrev pub Holds : Option ℕ → List Call → Type 0
Holds word calls = (l : ℕ) → is_line word l ≡ is_reserved 0 l calls

-- the reply to a request, over the lines of an image
abbrev pub reply_to : WorldView → List (List ℕ) → Request → Reply
reply_to world image request = replied (memory_of world.held image) (is_line world.reserved) request

-- how many events a write makes
abbrev pub event_count : ℕ → ℕ
event_count address = if nat_le PERSISTENT_BASE address then 1 else 0

-- where events are kept these are kept too
pub record AreKept (old new : WorldView) (events : List Event) : Type 0 where
  pub keeps : new.keeps ≡ old.keeps
  pub trace : old.keeps ≡ true → new.trace ≡ old.trace ++ events

-- a request of hart 0 is served: the reply by flat memory and the reservation, and what is round it then
pub record Serves (old new : WorldView) (image : List (List ℕ)) (request : Request) (r : Reply) : Type 0 where
  pub reply : r ≡ reply_to old image request
  pub memory : memory_of new.held image ≡ memory_after (memory_of old.held image) request r
  pub reserved : (calls : List Call) → Holds old.reserved calls → Holds new.reserved (calls_of (Asked 0 request r) ++ calls)
  pub events : new.events ≡ old.events + length (events_of 0 request r)
  pub few : new.events ≤ 65536
  pub kept : AreKept old new (events_of 0 request r)
  pub own : (l : ℕ) → slice_index new.own l ≡ with_written l (written request r) (slice_index old.own l)
  pub asked : new.asked ≡ old.asked ++ asked_by (slice_index old.own) request r

-- a request whose event would be event 65,537 isn't
pub record IsTooMany (world : WorldView) (image : List (List ℕ)) (request : Request) : Type 0 where
  pub more : 65536 < world.events + length (events_of 0 request (reply_to world image request))

abbrev pub IsServed : WorldView → WorldView → List (List ℕ) → Request → Served → Type 0
IsServed old new image request (Replied reply) = Serves old new image request reply
IsServed old new image request Full = (new ≡ old) × IsTooMany old image request

-- a write
pub record Writes (old new : WorldView) (image : List (List ℕ)) (address width value : ℕ) : Type 0 where
  pub memory : memory_of new.held image ≡ stored_to (memory_of old.held image) address width value
  pub reserved : new.reserved ≡ old.reserved
  pub events : new.events ≡ old.events + event_count address
  pub kept : AreKept old new (events_of_write 0 (Some (record { address = address; width = width; value = value })))
  pub own : (l : ℕ) → slice_index new.own l ≡ with_written l (Some (record { address = address; width = width; value = value })) (slice_index old.own l)
  pub asked : new.asked ≡ old.asked

-- with an event more
abbrev pub with_event : WorldView → Event → WorldView
with_event old event = record old {
  events = old.events + 1;
  trace = if old.keeps then old.trace ++ event ∷ [] else old.trace;
}

-- an event is noted, where there is room
abbrev pub IsNoted : WorldView → WorldView → Event → Served → Type 0
IsNoted old new event (Replied reply) = (reply ≡ Done) × (new ≡ with_event old event) × (new.events ≤ 65536)
IsNoted old new event Full = (new ≡ old) × (65536 < old.events + 1)
