-- What a contract sees of what harts share, what it represents, and what a request does to it.
use Rattle.std.specs.Prelude.{◌≡◌, ◌++◌, ◌∷◌, ◌/◌, ◌%◌, ◌+◌, ◌*◌, ◌<◌, ◌≤◌, ℕ, zero, suc, List, [], Option, Some, None, Bool, false, eqb, length, slice_get, flat_map}
use Rattle.clean_fence.specs.Rules as pm
use Rattle.clean_fence.specs.Rules.{PmView, after_evict}
use Rattle.clean_fence.specs.Represents.{AreAmong, CacheSteps, RepresentsUnforced}
use Rattle.store_trace.specs.declared.crash_model.step.PersistenceStep.TheVariants as step
use Rattle.line_memory.specs.Lines.{AreLines, line_bytes}
use Rattle.line_memory.specs.Memory.{Memory, fault_of, loaded_from, stored_to}
use Rattle.line_memory.specs.Regions.{RamView, flat, ram_bytes}
use Rattle.line_memory.specs.declared.TheConstants.{PERSISTENT_BASE}
use Rattle.store_trace.specs.History.{history, steps_of}
use Rattle.store_trace.specs.declared.event.Event.{Event}
use Rattle.store_trace.specs.declared.event.Event.TheVariants as events
use Rattle.hart.specs.declared.need.Request.{Request}
use Rattle.hart.specs.declared.need.Reply.{Reply}
use Rattle.hart.specs.declared.need.Reply.TheVariants.{Done}
use Rattle.reservation.specs.Reserved.{Agrees, Call, Stored}
use Rattle.machine.specs.declared.shared_memory.history.Entry.TheVariants.{Asked}
use Rattle.machine.specs.Histories.{calls_of, memory_after, written}
use Rattle.machine.specs.Cached.{RepresentsEvicting, after_load_at, after_store_at, cache_after, cache_left}
use Rattle.machine.specs.Persisted.{line_used, lines_used, persisted, touched}
use Rattle.machine.specs.Replies.{SharedState, events_of, if_persistent, line_of, memory_in, offset_of, replied, trace_in}

-- the lines that n harts from one on have reserved, by a word for each hart
abbrev pub line_in : Option (Option ℕ) → Option ℕ
line_in None = None
line_in (Some word) = word

unfoldable pub reserved_lines : List (Option ℕ) → ℕ → ℕ → List (Option ℕ)
reserved_lines words h zero = []
reserved_lines words h (suc n) = line_in (slice_get words h) ∷ reserved_lines words (suc h) n

-- what a contract sees of what harts share: text and data, the cache with the medium behind it, the line of the address
-- space that each of eight harts has reserved, and the trace
pub record SharedView : Type 0 where
  pub ram : RamView
  pub cache : PmView
  pub reserved : List (Option ℕ)
  pub trace : List Event

-- the lines of persistent memory as loads find them
abbrev pub lines_shown : SharedView → List (List ℕ)
lines_shown shared = pm.memory_of shared.cache

-- its flat memory
abbrev pub memory_of : SharedView → Memory
memory_of shared = flat (ram_bytes shared.ram) (line_bytes (lines_shown shared))

-- whether hart h has reserved line l
abbrev pub is_line : Option (Option ℕ) → ℕ → Bool
is_line (Some (Some line)) l = eqb line l
is_line (Some None) l = false
is_line None l = false

abbrev pub holds : SharedView → ℕ → ℕ → Bool
holds shared h l = is_line (slice_get shared.reserved h) l

-- the reply to a request of hart h
abbrev pub reply_to : SharedView → ℕ → Request → Reply
reply_to shared h request = replied (memory_of shared) (holds shared h) request

-- The flat memory, the reservations and the trace are those that the history leaves. The cache represents the steps of the
-- history with evictions of its own; where it has room for all lines that the history uses, it represents those steps alone.
pub record RepresentsShared (shared : SharedView) (c : SharedState) : Type 0 where
  pub memory : memory_of shared ≡ memory_in c
  pub reserved : Agrees shared.reserved (flat_map calls_of c.history)
  pub trace : shared.trace ≡ trace_in c
  pub cached : RepresentsEvicting c.start (history (trace_in c)) shared.cache
  pub unforced : (lines : List ℕ) → length lines ≤ shared.cache.cache.capacity → AreAmong (touched c.history) lines →
      RepresentsUnforced c.start lines (persisted c.history) shared.cache

-- The cache is the one that the history leaves, with the medium behind it: at any capacity, whichever lines had to leave.
pub record IsExact (shared : SharedView) (c : SharedState) : Type 0 where
  pub cache : shared.cache ≡ cache_left shared.cache.cache.capacity c.start c.history

-- the number that an access of memory finds
pub record Finds (memory : Memory) (address width value : ℕ) : Type 0 where
  pub no_fault : fault_of memory address width ≡ None
  pub number : loaded_from memory address width ≡ Some value

-- an access to persistent memory that can be made, and where it begins, counted from the base
pub record IsPlaceIn (shared : SharedView) (address width offset : ℕ) : Type 0 where
  pub place : address ≡ PERSISTENT_BASE + offset
  pub aligned : offset % width ≡ 0
  pub there : offset < 64 * length shared.cache.lines
  pub few : length shared.cache.lines ≤ 16384
  pub whole : AreLines (lines_shown shared)

-- a load from an address: nothing changes but the cache
pub record Reads (old new : SharedView) (address : ℕ) : Type 0 where
  pub ram : new.ram ≡ old.ram
  pub shown : lines_shown new ≡ lines_shown old
  pub reserved : new.reserved ≡ old.reserved
  pub trace : new.trace ≡ old.trace
  pub cache : new.cache ≡ after_load_at address old.cache
  pub steps : (forced : List ℕ) × CacheSteps old.cache new.cache [] forced (line_used address)

-- a write of hart h
pub record Writes (old new : SharedView) (h address width value : ℕ) : Type 0 where
  pub memory : memory_of new ≡ stored_to (memory_of old) address width value
  pub reserved : (calls : List Call) → Agrees old.reserved calls → Agrees new.reserved (Stored h (address / 64) ∷ calls)
  pub trace : new.trace ≡ old.trace ++ if_persistent address (events.Store h (line_of address) (offset_of address) width value)
  pub cache : new.cache ≡ after_store_at address width value old.cache
  pub steps : (forced : List ℕ) × CacheSteps old.cache new.cache
      (history (if_persistent address (events.Store h (line_of address) (offset_of address) width value))) forced (line_used address)

-- a request of hart h: the reply by flat memory and reservations, and what is shared after it
pub record Serves (old new : SharedView) (h : ℕ) (request : Request) (r : Reply) : Type 0 where
  pub reply : r ≡ reply_to old h request
  pub memory : memory_of new ≡ memory_after (memory_of old) request r
  pub reserved : (calls : List Call) → Agrees old.reserved calls → Agrees new.reserved (calls_of (Asked h request r) ++ calls)
  pub trace : new.trace ≡ old.trace ++ events_of h request r
  pub cache : new.cache ≡ cache_after h request r old.cache
  pub steps : (forced : List ℕ) × CacheSteps old.cache new.cache (history (events_of h request r)) forced (lines_used request r)

-- an eviction of a line, which no flat memory shows
pub record Evicts (old new : SharedView) (line : ℕ) : Type 0 where
  pub memory : memory_of new ≡ memory_of old
  pub reserved : new.reserved ≡ old.reserved
  pub trace : new.trace ≡ old.trace
  pub cache : new.cache ≡ after_evict line old.cache
  pub steps : CacheSteps old.cache new.cache (step.Evict line ∷ []) [] []

-- the request does nothing but make this event, which does nothing to persistent memory
pub record IsMark (h : ℕ) (request : Request) (made : Event) : Type 0 where
  pub reply : (memory : Memory) (reserved : ℕ → Bool) → replied memory reserved request ≡ Done
  pub written : written request Done ≡ None
  pub calls : calls_of (Asked h request Done) ≡ []
  pub event : events_of h request Done ≡ made ∷ []
  pub steps : steps_of made ≡ []
  pub lines : lines_used request Done ≡ []
  pub cache : (cache : PmView) → cache_after h request Done cache ≡ cache
