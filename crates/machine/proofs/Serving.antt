-- A request served by the parts of what harts share is served by the flat memory and the reservations.
use Rattle.std.proofs.Common.{◌≡◌, ◌≢◌, ℕ, ◌+◌, ◌-◌, ◌*◌, ◌/◌, ◌%◌, ◌<◌, ◌≤◌, List, [], ◌∷◌, ◌++◌, length, Option, Some, None, Bool, true, false, eqb, is_some, if◌then◌else◌, slice_get, slice_index, refl, sym, ap, ◌∙◌, inl, inr, arith}
use Rattle.std.proofs.lemmas.List.{append-nil, get_or_past}
use Rattle.std.proofs.lemmas.Option.{slice_get-get_or}
use Rattle.std.proofs.lemmas.Bool.{cases_eq, le-leb, lt-leb}
use Rattle.hart.specs.Memory.{amo_result}
use Rattle.hart.specs.Requests.{IsAtomicWidth}
use Rattle.hart.specs.declared.need.Request.{Request}
use Rattle.hart.specs.declared.need.Request.TheVariants.{Load, Store, Lr, Sc, Amo, Cbo, Fence, FenceI}
use Rattle.hart.specs.declared.need.Reply.{Reply}
use Rattle.hart.specs.declared.need.Reply.TheVariants.{Value, Done, Fault}
use Rattle.hart.specs.declared.need.AccessFault.TheVariants.{Outside}
use Rattle.isa_table.specs.declared.instruction.AtomicOp.{AtomicOp}
use Rattle.isa_table.specs.declared.instruction.CacheOp.{CacheOp}
use Rattle.line_memory.specs.Lines.{AreLines, line_at, line_bytes}
use Rattle.line_memory.specs.Memory.{IsWidth, Memory, fault_of, loaded_from, stored_to}
use Rattle.line_memory.specs.Places.{IsPlace}
use Rattle.line_memory.specs.Regions.{RamView, flat, ram_bytes}
use Rattle.line_memory.specs.declared.ram.RamPlace.{RamPlace}
use Rattle.line_memory.specs.declared.ram.RamPlace.TheVariants.{Text, Data}
use Rattle.line_memory.specs.declared.TheConstants.{PERSISTENT_BASE}
use Rattle.line_memory.specs.declared.MemFault.{MemFault}
use Rattle.line_memory.specs.declared.MemFault.TheVariants as faults
use Rattle.line_memory.proofs.Accesses.{fault_misaligned}
use Rattle.line_memory.proofs.Flat.{aligned_below, fault_line, fault_past_lines, fault_persistent, fault_ram, flat_persistent, flat_ram, load_persistent, load_ram, past_lines, store_persistent, store_ram}
use Rattle.store_trace.specs.declared.crash_model.step.PersistenceStep.{PersistenceStep}
use Rattle.store_trace.specs.declared.crash_model.step.PersistenceStep.TheVariants as step
use Rattle.lru_cache.proofs.Shows.{length_shown}
use Rattle.clean_fence.specs.Rules.{PmView, after_fence, after_load, after_store}
use Rattle.store_trace.specs.History.{history}
use Rattle.reservation.specs.Reserved.{Agrees, Call, Follows, Reserved, Stored, Taken}
use Rattle.store_trace.specs.declared.event.Event.{Event}
use Rattle.store_trace.specs.declared.event.Event.TheVariants as events
use Rattle.machine.specs.Histories.{calls_of, written}
use Rattle.machine.specs.SharedMemoryRefusals.{IsEventFault, RefusesRequest, RefusesWrite}
use Rattle.clean_fence.specs.Represents.{CacheSteps}
use Rattle.machine.specs.Cached.{after_load_at, after_operation, after_operation_at, after_store_at, cache_after}
use Rattle.machine.specs.Persisted.{line_used, lines_used}
use Rattle.machine.specs.Replies.{access_fault, events_of, if_persistent, line_of, offset_of, store_event}
use Rattle.machine.specs.declared.shared_memory.fault.StepFault.{StepFault}
use Rattle.machine.specs.declared.shared_memory.history.Entry.TheVariants.{Asked}
use Rattle.machine.specs.SharedView.{Finds, IsMark, IsPlaceIn, Reads, Serves, SharedView, Writes, holds, lines_shown, memory_of, reply_to, reserved_lines}
use Rattle.machine.proofs.SharedMemoryStepping.{idle, two_calls}
use Rattle.machine.proofs.Reserving.{lines_follow}

-- there are as many lines as the medium has
pub count_shown : (shared : SharedView) → length (lines_shown shared) ≡ length shared.cache.lines
count_shown shared = length_shown shared.cache.cache.copies shared.cache.lines

-- an event of persistent memory
in_persistent : (address : ℕ) (event : Event) → PERSISTENT_BASE ≤ address → if_persistent address event ≡ event ∷ []
in_persistent address event above = rw (le-leb PERSISTENT_BASE address above) refl

below_persistent : (address : ℕ) (event : Event) → address < PERSISTENT_BASE → if_persistent address event ≡ []
below_persistent address event low = rw (lt-leb PERSISTENT_BASE address low) refl

-- an access of text or data has the faults that the Ram finds
ram_fault : (shared : SharedView) (address width : ℕ) → IsWidth width → address < PERSISTENT_BASE
    → fault_of (memory_of shared) address width ≡ fault_of (ram_bytes shared.ram) address width
ram_fault shared address width w low = fault_ram (ram_bytes shared.ram) (line_bytes (lines_shown shared)) address width w low

-- an access that can be made is aligned, and so it doesn't reach past the base of persistent memory from below
pub aligned_of : (memory : Memory) (address width : ℕ) → fault_of memory address width ≡ None → address % width ≡ 0
aligned_of memory address width none = elim (cases_eq (address % width) 0) [
  | inl aligned ↦ aligned
  | inr odd ↦ let e = fault_misaligned memory address width odd in absurd (cc)
]

ends_below : (memory : Memory) (address width : ℕ) → IsWidth width → fault_of memory address width ≡ None → address < PERSISTENT_BASE
    → address + width ≤ PERSISTENT_BASE
ends_below memory address width w none low = aligned_below address width w (aligned_of memory address width none) low

-- text and data lie below persistent memory
pub ram_below : (address width : ℕ) (place : RamPlace) → IsWidth width → IsPlace address width place → address < PERSISTENT_BASE
ram_below address width (Text at) w h = let place = h.1 in let fits = h.2 in omega arith
ram_below address width (Data at) w h = let place = h.1 in let fits = h.2 in omega arith

-- what an access of text or data finds
pub fault_in_ram : (shared : SharedView) (address width : ℕ) (fault : Option MemFault) → IsWidth width → address < PERSISTENT_BASE
    → fault_of (ram_bytes shared.ram) address width ≡ fault → fault_of (memory_of shared) address width ≡ fault
fault_in_ram shared address width fault w low e = ram_fault shared address width w low ∙ e

pub found_in_ram : (shared : SharedView) (address width value : ℕ) → IsWidth width → address < PERSISTENT_BASE
    → fault_of (ram_bytes shared.ram) address width ≡ None → loaded_from (ram_bytes shared.ram) address width ≡ Some value
    → Finds (memory_of shared) address width value
found_in_ram shared address width value w low none found = record {
  no_fault = ram_fault shared address width w low ∙ none;
  number = load_ram (ram_bytes shared.ram) (line_bytes (lines_shown shared)) address width (ends_below (ram_bytes shared.ram) address width w none low) ∙ found;
}

-- what an access of persistent memory finds
lines_fault : (shared : SharedView) (address offset width : ℕ) → IsWidth width → address ≡ PERSISTENT_BASE + offset
    → fault_of (memory_of shared) address width ≡ fault_of (line_bytes (lines_shown shared)) offset width
lines_fault shared address offset width w place =
    rw place (fault_persistent (ram_bytes shared.ram) (line_bytes (lines_shown shared)) offset width w)

pub misaligned_in_lines : (shared : SharedView) (address offset width : ℕ) → IsWidth width
    → address ≡ PERSISTENT_BASE + offset → offset % width ≢ 0 → fault_of (memory_of shared) address width ≡ Some faults.Misaligned
misaligned_in_lines shared address offset width w place odd =
    lines_fault shared address offset width w place ∙ fault_misaligned (line_bytes (lines_shown shared)) offset width odd

pub outside_lines : (shared : SharedView) (address offset width : ℕ) → IsWidth width
    → address ≡ PERSISTENT_BASE + offset → offset % width ≡ 0 → 64 * length shared.cache.lines ≤ offset
    → fault_of (memory_of shared) address width ≡ Some faults.Outside
outside_lines shared address offset width w place aligned past =
    let count = count_shown shared in
    let beyond : 64 * length (lines_shown shared) ≤ offset = omega arith in
    lines_fault shared address offset width w place ∙ fault_past_lines (lines_shown shared) offset width w aligned beyond

pub no_fault_in_lines : (shared : SharedView) (address width offset : ℕ) → IsWidth width → IsPlaceIn shared address width offset
    → fault_of (memory_of shared) address width ≡ None
no_fault_in_lines shared address width offset w at =
    let count = count_shown shared in
    let there = at.there in
    let inside : offset < 64 * length (lines_shown shared) = omega arith in
    lines_fault shared address offset width w at.place ∙ fault_line (lines_shown shared) at.whole offset width w at.aligned inside

pub found_in_lines : (shared : SharedView) (address width offset value : ℕ) → IsWidth width → IsPlaceIn shared address width offset
    → loaded_from (line_bytes (lines_shown shared)) offset width ≡ Some value → Finds (memory_of shared) address width value
found_in_lines shared address width offset value w at found = record {
  no_fault = no_fault_in_lines shared address width offset w at;
  number = rw at.place (load_persistent (ram_bytes shared.ram) (line_bytes (lines_shown shared)) offset width ∙ found);
}

-- writes
pub stored_more : (old new words after : List (Option ℕ)) (h address line : ℕ) → old ≡ reserved_lines words 0 8
    → new ≡ reserved_lines after 0 8 → line ≡ address / 64 → Follows words after (Stored h line)
    → (calls : List Call) → Agrees old calls → Agrees new (Stored h (address / 64) ∷ calls)
stored_more old new words after h address line was is place follows calls agrees =
    rw is (lines_follow words after (Stored h (address / 64)) calls (rw place at follows) (rw (← was) agrees))

-- the cache where text or data is accessed, and where a line is
loaded_below : (address : ℕ) (cache : PmView) → address < PERSISTENT_BASE → after_load_at address cache ≡ cache
loaded_below address cache low = rw (lt-leb PERSISTENT_BASE address low) refl

stored_below : (address width value : ℕ) (cache : PmView) → address < PERSISTENT_BASE → after_store_at address width value cache ≡ cache
stored_below address width value cache low = rw (lt-leb PERSISTENT_BASE address low) refl

none_used : (address : ℕ) → address < PERSISTENT_BASE → line_used address ≡ []
none_used address low = rw (lt-leb PERSISTENT_BASE address low) refl

line_at_place : (address offset : ℕ) → address ≡ PERSISTENT_BASE + offset → line_of address ≡ offset / 64
line_at_place address offset place = rw place (omega arith)

offset_at_place : (address offset : ℕ) → address ≡ PERSISTENT_BASE + offset → offset_of address ≡ offset % 64
offset_at_place address offset place = rw place (omega arith)

loaded_there : (address offset : ℕ) (cache : PmView) → address ≡ PERSISTENT_BASE + offset
    → after_load_at address cache ≡ after_load (offset / 64) cache
loaded_there address offset cache place =
    let above : PERSISTENT_BASE ≤ address = omega arith in
    rw (le-leb PERSISTENT_BASE address above) (ap (λ (line : ℕ). after_load line cache) (line_at_place address offset place))

stored_there : (address offset width value : ℕ) (cache : PmView) → address ≡ PERSISTENT_BASE + offset
    → after_store_at address width value cache ≡ after_store (offset / 64) (offset % 64) width value cache
stored_there address offset width value cache place =
    let above : PERSISTENT_BASE ≤ address = omega arith in
    rw (le-leb PERSISTENT_BASE address above)
    (ap (λ (line : ℕ). after_store line (offset_of address) width value cache) (line_at_place address offset place)
    ∙ ap (λ (byte : ℕ). after_store (offset / 64) byte width value cache) (offset_at_place address offset place))

used_there : (address offset : ℕ) → address ≡ PERSISTENT_BASE + offset → line_used address ≡ offset / 64 ∷ []
used_there address offset place =
    let above : PERSISTENT_BASE ≤ address = omega arith in
    rw (le-leb PERSISTENT_BASE address above) (ap (λ (line : ℕ). line ∷ []) (line_at_place address offset place))

event_there : (h address offset width value : ℕ) → address ≡ PERSISTENT_BASE + offset
    → if_persistent address (events.Store h (line_of address) (offset_of address) width value) ≡ store_event h offset width value ∷ []
event_there h address offset width value place =
    let above : PERSISTENT_BASE ≤ address = omega arith in
    in_persistent address (events.Store h (line_of address) (offset_of address) width value) above
    ∙ ap (λ (line : ℕ). events.Store h line (offset_of address) width value ∷ []) (line_at_place address offset place)
    ∙ ap (λ (byte : ℕ). events.Store h (offset / 64) byte width value ∷ []) (offset_at_place address offset place)

-- the same steps and lines by other names
steps_as : (old new : PmView) (made other : List PersistenceStep) (forced used lines : List ℕ) → CacheSteps old new made forced used
    → made ≡ other → used ≡ lines → (evicted : List ℕ) × CacheSteps old new other evicted lines
steps_as old new made other forced used lines s e f = (forced, rw (← e, ← f) s)

idle_from : (old new : PmView) → new ≡ old → CacheSteps old new [] [] []
idle_from old new e = rw e (idle old)

-- reads
pub read_in_ram : (shared : SharedView) (address : ℕ) → address < PERSISTENT_BASE → Reads shared shared address
read_in_ram shared address low = record {
  ram = refl;
  shown = refl;
  reserved = refl;
  trace = refl;
  cache = sym (loaded_below address shared.cache low);
  steps = steps_as shared.cache shared.cache [] [] [] [] (line_used address) (idle shared.cache) refl (sym (none_used address low));
}

pub read_in_lines : (old new : SharedView) (address offset : ℕ) (forced : List ℕ) → address ≡ PERSISTENT_BASE + offset
    → new.ram ≡ old.ram → new.reserved ≡ old.reserved → new.trace ≡ old.trace
    → lines_shown new ≡ lines_shown old → new.cache ≡ after_load (offset / 64) old.cache
    → CacheSteps old.cache new.cache [] forced (offset / 64 ∷ []) → Reads old new address
read_in_lines old new address offset forced place ram reserved trace shown cache steps = record {
  ram = ram;
  shown = shown;
  reserved = reserved;
  trace = trace;
  cache = cache ∙ sym (loaded_there address offset old.cache place);
  steps = steps_as old.cache new.cache [] [] forced (offset / 64 ∷ []) (line_used address) steps refl (sym (used_there address offset place));
}

-- writes
pub written_in_ram : (old new : SharedView) (h address width value : ℕ) → IsWidth width → address < PERSISTENT_BASE
    → fault_of (ram_bytes old.ram) address width ≡ None → ram_bytes new.ram ≡ stored_to (ram_bytes old.ram) address width value
    → new.cache ≡ old.cache → new.trace ≡ old.trace
    → ((calls : List Call) → Agrees old.reserved calls → Agrees new.reserved (Stored h (address / 64) ∷ calls))
    → Writes old new h address width value
written_in_ram old new h address width value w low none ram cache trace reserved =
    let silent : if_persistent address (events.Store h (line_of address) (offset_of address) width value) ≡ [] = below_persistent address _ low in
    record {
      memory =
          let fits : address + width ≤ PERSISTENT_BASE = ends_below (ram_bytes old.ram) address width w none low in
          rw (ram, cache) (sym (store_ram (ram_bytes old.ram) (line_bytes (lines_shown old)) address width value fits));
      reserved = reserved;
      trace = trace ∙ sym (ap (λ (more : List Event). old.trace ++ more) silent ∙ append-nil old.trace);
      cache = cache ∙ sym (stored_below address width value old.cache low);
      steps = steps_as old.cache new.cache [] _ [] [] (line_used address) (idle_from old.cache new.cache cache)
          (sym (ap (λ (made : List Event). history made) silent)) (sym (none_used address low));
    }

pub written_in_lines : (old new : SharedView) (h address width offset value : ℕ) (forced : List ℕ) → address ≡ PERSISTENT_BASE + offset
    → new.ram ≡ old.ram → new.trace ≡ old.trace ++ store_event h offset width value ∷ []
    → line_bytes (lines_shown new) ≡ stored_to (line_bytes (lines_shown old)) offset width value
    → new.cache ≡ after_store (offset / 64) (offset % 64) width value old.cache
    → CacheSteps old.cache new.cache (step.Store (offset / 64) (offset % 64) width value ∷ []) forced (offset / 64 ∷ [])
    → ((calls : List Call) → Agrees old.reserved calls → Agrees new.reserved (Stored h (address / 64) ∷ calls))
    → Writes old new h address width value
written_in_lines old new h address width offset value forced place ram trace bytes cache steps reserved =
    let event = event_there h address offset width value place in
    record {
      memory = rw (ram, bytes, place) (sym (store_persistent (ram_bytes old.ram) (line_bytes (lines_shown old)) offset width value));
      reserved = reserved;
      trace = trace ∙ sym (ap (λ (more : List Event). old.trace ++ more) event);
      cache = cache ∙ sym (stored_there address offset width value old.cache place);
      steps = steps_as old.cache new.cache (step.Store (offset / 64) (offset % 64) width value ∷ []) _ forced (offset / 64 ∷ []) (line_used address) steps
          (sym (ap (λ (made : List Event). history made) event)) (sym (used_there address offset place));
    }

-- a request that changes nothing
pub unchanged : (shared : SharedView) (h : ℕ) (request : Request) (r : Reply) → r ≡ reply_to shared h request
    → written request r ≡ None → calls_of (Asked h request r) ≡ [] → events_of h request r ≡ []
    → cache_after h request r shared.cache ≡ shared.cache → lines_used request r ≡ []
    → Serves shared shared h request r
unchanged shared h request r reply none calls silent cache lines = record {
  reply = reply;
  memory = rw none refl;
  reserved = λ more agrees. rw calls agrees;
  trace = rw silent (sym (append-nil shared.trace));
  cache = sym cache;
  steps = steps_as shared.cache shared.cache [] _ [] [] _ (idle shared.cache) (sym (ap (λ (made : List Event). history made) silent)) (sym lines);
}

-- requests that meet a fault
pub load_faulted : (shared : SharedView) (h address width : ℕ) (fault : MemFault) → fault_of (memory_of shared) address width ≡ Some fault
    → Serves shared shared h (Load address width) (Fault (access_fault fault))
load_faulted shared h address width fault e =
    unchanged shared h (Load address width) (Fault (access_fault fault)) (rw e refl) refl refl refl refl refl

pub store_faulted : (shared : SharedView) (h address width value : ℕ) (fault : MemFault) → fault_of (memory_of shared) address width ≡ Some fault
    → Serves shared shared h (Store address width value) (Fault (access_fault fault))
store_faulted shared h address width value fault e =
    unchanged shared h (Store address width value) (Fault (access_fault fault)) (rw e refl) refl refl refl refl refl

pub lr_faulted : (shared : SharedView) (h address width : ℕ) (fault : MemFault) → fault_of (memory_of shared) address width ≡ Some fault
    → Serves shared shared h (Lr address width) (Fault (access_fault fault))
lr_faulted shared h address width fault e =
    unchanged shared h (Lr address width) (Fault (access_fault fault)) (rw e refl) refl refl refl refl refl

pub sc_faulted : (shared : SharedView) (h address width value : ℕ) (fault : MemFault) → fault_of (memory_of shared) address width ≡ Some fault
    → Serves shared shared h (Sc address width value) (Fault (access_fault fault))
sc_faulted shared h address width value fault e =
    unchanged shared h (Sc address width value) (Fault (access_fault fault)) (rw e refl) refl refl refl refl refl

pub amo_faulted : (shared : SharedView) (op : AtomicOp) (h address width operand : ℕ) (fault : MemFault)
    → fault_of (memory_of shared) address width ≡ Some fault
    → Serves shared shared h (Amo op address width operand) (Fault (access_fault fault))
amo_faulted shared op h address width operand fault e =
    unchanged shared h (Amo op address width operand) (Fault (access_fault fault)) (rw e refl) refl refl refl refl refl

-- a FENCE.I changes nothing here
pub renews : (shared : SharedView) (h : ℕ) → Serves shared shared h FenceI Done
renews shared h = unchanged shared h FenceI Done refl refl refl refl refl refl

-- loads, and requests that write
pub loads_value : (old new : SharedView) (h address width value : ℕ) → Finds (memory_of old) address width value
    → Reads old new address → Serves old new h (Load address width) (Value value)
loads_value old new h address width value finds reads = record {
  reply = rw (finds.no_fault, finds.number) refl;
  memory = rw (reads.ram, reads.shown) refl;
  reserved = λ calls agrees. rw reads.reserved agrees;
  trace = reads.trace ∙ sym (append-nil old.trace);
  cache = reads.cache;
  steps = reads.steps;
}

pub stores : (old new : SharedView) (h address width value : ℕ) → fault_of (memory_of old) address width ≡ None
    → Writes old new h address width value → Serves old new h (Store address width value) Done
stores old new h address width value none writes = record {
  reply = rw none refl;
  memory = writes.memory;
  reserved = writes.reserved;
  trace = writes.trace;
  cache = writes.cache;
  steps = writes.steps;
}

pub combines : (old middle new : SharedView) (op : AtomicOp) (h address width operand found : ℕ) → Finds (memory_of old) address width found
    → Reads old middle address → Writes middle new h address width (amo_result op width found operand)
    → Serves old new h (Amo op address width operand) (Value found)
combines old middle new op h address width operand found finds reads writes =
    let value : ℕ = amo_result op width found operand in
    let same : memory_of middle ≡ memory_of old = rw (reads.ram, reads.shown) refl in
    record {
      reply = rw (finds.no_fault, finds.number) refl;
      memory = writes.memory ∙ ap (λ (m : Memory). stored_to m address width (amo_result op width found operand)) same;
      reserved = λ calls agrees. writes.reserved calls (rw reads.reserved agrees);
      trace = writes.trace
          ∙ ap (λ (t : List Event). t ++ if_persistent address (events.Store h (line_of address) (offset_of address) width (amo_result op width found operand))) reads.trace;
      cache = writes.cache ∙ ap (λ (cache : PmView). after_store_at address width (amo_result op width found operand) cache) reads.cache;
      steps = (writes.steps.0 ++ reads.steps.0, two_calls old.cache middle.cache new.cache _ reads.steps.0 writes.steps.0 (line_used address) reads.steps.1 writes.steps.1);
    }

pub combines_with : (old middle new : SharedView) (op : AtomicOp) (h address width operand found value : ℕ)
    → value ≡ amo_result op width found operand → Finds (memory_of old) address width found → Reads old middle address
    → Writes middle new h address width value → Serves old new h (Amo op address width operand) (Value found)
combines_with old middle new op h address width operand found value e finds reads writes =
    combines old middle new op h address width operand found finds reads (rw e at writes)

-- what harts share, but for the reservations, which one more call has changed
pub calls_more : (old new : SharedView) (words after : List (Option ℕ)) (call : Call) → old.reserved ≡ reserved_lines words 0 8
    → new ≡ record old { reserved = reserved_lines after 0 8 } → Follows words after call
    → (calls : List Call) → Agrees old.reserved calls → Agrees new.reserved (call ∷ calls)
calls_more old new words after call was e follows calls agrees =
    rw e (lines_follow words after call calls follows (rw (← was) agrees))

pub reserves : (old middle new : SharedView) (words after : List (Option ℕ)) (h address line width value : ℕ)
    → Finds (memory_of old) address width value → Reads old middle address → middle.reserved ≡ reserved_lines words 0 8
    → new ≡ record middle { reserved = reserved_lines after 0 8 } → line ≡ address / 64 → Follows words after (Reserved h line)
    → Serves old new h (Lr address width) (Value value)
reserves old middle new words after h address line width value finds reads was e place follows =
    let same : memory_of middle ≡ memory_of old = rw (reads.ram, reads.shown) refl in
    record {
      reply = rw (finds.no_fault, finds.number) refl;
      memory = rw e same;
      reserved = λ calls agrees.
          calls_more middle new words after (Reserved h (address / 64)) was e (rw place at follows) calls (rw reads.reserved agrees);
      trace = rw e (reads.trace ∙ sym (append-nil old.trace));
      cache = rw e reads.cache;
      steps = rw e reads.steps;
    }

-- an SC has ended its hart's reservation
pub record Ends (old new : SharedView) (h : ℕ) : Type 0 where
  pub ram : new.ram ≡ old.ram
  pub cache : new.cache ≡ old.cache
  pub trace : new.trace ≡ old.trace
  pub reserved : (calls : List Call) → Agrees old.reserved calls → Agrees new.reserved (Taken h ∷ calls)

pub ends : (old new : SharedView) (words after : List (Option ℕ)) (h : ℕ) → old.reserved ≡ reserved_lines words 0 8
    → new ≡ record old { reserved = reserved_lines after 0 8 } → Follows words after (Taken h) → Ends old new h
ends old new words after h was e follows = record {
  ram = rw e refl;
  cache = rw e refl;
  trace = rw e refl;
  reserved = calls_more old new words after (Taken h) was e follows;
}

pub fails : (old ended : SharedView) (h address width value : ℕ) → fault_of (memory_of old) address width ≡ None
    → holds old h (address / 64) ≡ false → Ends old ended h → Serves old ended h (Sc address width value) (Value 1)
fails old ended h address width value none free ends = record {
  reply = rw (none, free) refl;
  memory = rw (ends.ram, ends.cache) refl;
  reserved = ends.reserved;
  trace = ends.trace ∙ sym (append-nil old.trace);
  cache = ends.cache;
  steps = ([], idle_from old.cache ended.cache ends.cache);
}

pub succeeds : (old ended new : SharedView) (h address width value : ℕ) → fault_of (memory_of old) address width ≡ None
    → holds old h (address / 64) ≡ true → Ends old ended h → Writes ended new h address width value
    → Serves old new h (Sc address width value) (Value 0)
succeeds old ended new h address width value none held ends writes = record {
  reply = rw (none, held) refl;
  memory = writes.memory ∙ rw (ends.ram, ends.cache) refl;
  reserved = λ calls agrees. writes.reserved (Taken h ∷ calls) (ends.reserved calls agrees);
  trace = writes.trace ∙ ap (λ (t : List Event). t ++ if_persistent address (events.Store h (line_of address) (offset_of address) width value)) ends.trace;
  cache = writes.cache ∙ ap (λ (cache : PmView). after_store_at address width value cache) ends.cache;
  steps = rw ends.cache at writes.steps;
}

-- requests whose event the trace doesn't take
pub store_refused : (shared : SharedView) (h address width value : ℕ) (fault : StepFault) → fault_of (memory_of shared) address width ≡ None
    → RefusesWrite shared address fault → RefusesRequest shared h (Store address width value) fault
store_refused shared h address width value fault none refused = record {
  event = rw none (ap (λ (l : List Event). length l) (in_persistent address _ refused.persistent));
  reason = refused.reason;
}

pub amo_refused : (shared : SharedView) (op : AtomicOp) (h address width operand found : ℕ) (fault : StepFault)
    → Finds (memory_of shared) address width found
    → RefusesWrite shared address fault → RefusesRequest shared h (Amo op address width operand) fault
amo_refused shared op h address width operand found fault finds refused = record {
  event = rw (finds.no_fault, finds.number) (ap (λ (l : List Event). length l) (in_persistent address _ refused.persistent));
  reason = refused.reason;
}

-- an access that can be made finds a number
found_if : (aligned : Bool) (o : Option ℕ)
    → (if aligned then (if is_some o then None else Some faults.Outside) else Some faults.Misaligned) ≡ None → (v : ℕ) × (o ≡ Some v)
found_if true (Some v) e = (v, refl)
found_if true None e = absurd (cc)
found_if false o e = absurd (cc)

some_loaded : (memory : Memory) (address width : ℕ) → fault_of memory address width ≡ None
    → (v : ℕ) × (loaded_from memory address width ≡ Some v)
unfolding fault_of
some_loaded memory address width none = found_if (eqb (address % width) 0) (loaded_from memory address width) none

pub wide : (width : ℕ) → IsAtomicWidth width → IsWidth width
wide width (inl four) = inr (inr (inl four))
wide width (inr eight) = inr (inr (inr eight))

pub amo_refused_there : (shared : SharedView) (op : AtomicOp) (h address width offset operand : ℕ) (fault : StepFault) → IsWidth width
    → IsPlaceIn shared address width offset → IsEventFault shared.trace fault → RefusesRequest shared h (Amo op address width operand) fault
amo_refused_there shared op h address width offset operand fault w at reason =
    let none = no_fault_in_lines shared address width offset w at in
    let found = some_loaded (memory_of shared) address width none in
    let place = at.place in
    let above : PERSISTENT_BASE ≤ address = omega arith in
    amo_refused shared op h address width operand found.0 fault (record { no_fault = none; number = found.1 })
    (record { persistent = above; reason = reason })

pub sc_refused : (old ended : SharedView) (h address width value : ℕ) (fault : StepFault) → fault_of (memory_of old) address width ≡ None
    → holds old h (address / 64) ≡ true → ended.trace ≡ old.trace
    → RefusesWrite ended address fault → RefusesRequest old h (Sc address width value) fault
sc_refused old ended h address width value fault none held trace refused = record {
  event = rw (none, held) (ap (λ (l : List Event). length l) (in_persistent address _ refused.persistent));
  reason = rw trace at refused.reason;
}

-- a request that is done, and does nothing but make its event
pub marks : (old new : SharedView) (h : ℕ) (request : Request) (event : Event) → IsMark h request event
    → new ≡ record old { trace = old.trace ++ event ∷ [] } → Serves old new h request Done
marks old new h request event mark e =
    let same : new.cache ≡ old.cache = rw e refl in
    let nothing : history (event ∷ []) ≡ [] = rw mark.steps refl in
    record {
      reply = sym (mark.reply (memory_of old) (holds old h));
      memory = rw (e, mark.written) refl;
      reserved = λ calls agrees. rw (e, mark.calls) agrees;
      trace = rw (e, mark.event) refl;
      cache = same ∙ sym (mark.cache old.cache);
      steps = steps_as old.cache new.cache [] _ [] [] _ (idle_from old.cache new.cache same)
          (sym (ap (λ (made : List Event). history made) mark.event ∙ nothing)) (sym mark.lines);
    }

-- a FENCE
pub fences : (old new : SharedView) (h : ℕ) → new.ram ≡ old.ram → new.reserved ≡ old.reserved
    → new.trace ≡ old.trace ++ events.Fence h ∷ [] → lines_shown new ≡ lines_shown old → new.cache ≡ after_fence h old.cache
    → CacheSteps old.cache new.cache (step.Fence h ∷ []) [] [] → Serves old new h Fence Done
fences old new h ram reserved trace shown cache steps = record {
  reply = refl;
  memory = rw (ram, shown) refl;
  reserved = λ calls agrees. rw reserved agrees;
  trace = trace;
  cache = cache;
  steps = ([], steps);
}

pub fence_refused : (shared : SharedView) (h : ℕ) (fault : StepFault) → IsEventFault shared.trace fault → RefusesRequest shared h Fence fault
fence_refused shared h fault reason = record { event = refl; reason = reason }

pub mark_refused : (shared : SharedView) (h : ℕ) (request : Request) (event : Event) (fault : StepFault) → IsMark h request event
    → IsEventFault shared.trace fault → RefusesRequest shared h request fault
mark_refused shared h request event fault mark reason = record {
  event = rw (mark.reply (memory_of shared) (holds shared h), mark.event) refl;
  reason = reason;
}

-- the byte at an address of persistent memory
byte_there : (shared : SharedView) (address offset : ℕ) → AreLines (lines_shown shared) → address ≡ PERSISTENT_BASE + offset
    → offset < 64 * length shared.cache.lines → is_some (memory_of shared address) ≡ true
unfolding line_bytes
byte_there shared address offset whole place there =
    let count = count_shown shared in
    let line : List ℕ = line_at (lines_shown shared) (offset / 64) in
    let low : offset / 64 < length (lines_shown shared) = omega arith in
    let size : length line ≡ 64 = whole.whole (offset / 64) low in
    let inside : offset % 64 < length line = omega arith in
    let byte : slice_get line (offset % 64) ≡ Some (slice_index line (offset % 64)) = slice_get-get_or line (offset % 64) 0 inside in
    rw (place, flat_persistent (ram_bytes shared.ram) (line_bytes (lines_shown shared)) offset, byte) refl

no_byte : (shared : SharedView) (address offset : ℕ) → address ≡ PERSISTENT_BASE + offset
    → 64 * length shared.cache.lines ≤ offset → is_some (memory_of shared address) ≡ false
unfolding line_bytes
no_byte shared address offset place past =
    let count = count_shown shared in
    let beyond : length (lines_shown shared) ≤ offset / 64 = omega arith in
    let none : line_at (lines_shown shared) (offset / 64) ≡ [] = get_or_past (lines_shown shared) (offset / 64) [] beyond in
    rw (place, flat_persistent (ram_bytes shared.ram) (line_bytes (lines_shown shared)) offset, none) refl

-- an operation on the line of an address of persistent memory
operated_there : (h : ℕ) (op : CacheOp) (address offset : ℕ) (cache : PmView) → address ≡ PERSISTENT_BASE + offset
    → after_operation_at h op address cache ≡ after_operation h op (offset / 64) cache
operated_there h op address offset cache place =
    let above : PERSISTENT_BASE ≤ address = omega arith in
    rw (le-leb PERSISTENT_BASE address above) (ap (λ (line : ℕ). after_operation h op line cache) (line_at_place address offset place))

clean_there : (h address offset : ℕ) → address ≡ PERSISTENT_BASE + offset
    → if_persistent address (events.Clean h (line_of address)) ≡ events.Clean h (offset / 64) ∷ []
clean_there h address offset place =
    let above : PERSISTENT_BASE ≤ address = omega arith in
    in_persistent address (events.Clean h (line_of address)) above
    ∙ ap (λ (line : ℕ). events.Clean h line ∷ []) (line_at_place address offset place)

pub cleaned_line : (old new : SharedView) (op : CacheOp) (h address offset : ℕ)
    → AreLines (lines_shown old) → address ≡ PERSISTENT_BASE + offset → offset < 64 * length old.cache.lines
    → new.ram ≡ old.ram → new.reserved ≡ old.reserved → new.trace ≡ old.trace ++ events.Clean h (offset / 64) ∷ []
    → lines_shown new ≡ lines_shown old → new.cache ≡ after_operation h op (offset / 64) old.cache
    → CacheSteps old.cache new.cache (step.Clean h (offset / 64) ∷ []) [] []
    → Serves old new h (Cbo op address) Done
cleaned_line old new op h address offset whole place there ram reserved trace shown cache steps =
    let event = clean_there h address offset place in
    record {
      reply = rw (byte_there old address offset whole place there) refl;
      memory = rw (ram, shown) refl;
      reserved = λ calls agrees. rw reserved agrees;
      trace = trace ∙ sym (ap (λ (more : List Event). old.trace ++ more) event);
      cache = cache ∙ sym (operated_there h op address offset old.cache place);
      steps = steps_as old.cache new.cache (step.Clean h (offset / 64) ∷ []) _ [] [] [] steps
          (sym (ap (λ (made : List Event). history made) event)) refl;
    }

pub no_line : (shared : SharedView) (op : CacheOp) (h address offset : ℕ)
    → address ≡ PERSISTENT_BASE + offset → 64 * length shared.cache.lines ≤ offset
    → Serves shared shared h (Cbo op address) (Fault Outside)
no_line shared op h address offset place past =
    unchanged shared h (Cbo op address) (Fault Outside) (rw (no_byte shared address offset place past) refl) refl refl refl refl refl

-- an operation on an address of text or data does nothing, and one on an address of no region meets a fault
pub below_done : (shared : SharedView) (op : CacheOp) (h address : ℕ)
    → address < PERSISTENT_BASE → is_some (ram_bytes shared.ram address) ≡ true
    → Serves shared shared h (Cbo op address) Done
below_done shared op h address low there =
    let same : after_operation_at h op address shared.cache ≡ shared.cache = rw (lt-leb PERSISTENT_BASE address low) refl in
    unchanged shared h (Cbo op address) Done (rw (flat_ram (ram_bytes shared.ram) (line_bytes (lines_shown shared)) address low, there) refl)
    refl refl (below_persistent address _ low) same refl

pub below_outside : (shared : SharedView) (op : CacheOp) (h address : ℕ)
    → address < PERSISTENT_BASE → is_some (ram_bytes shared.ram address) ≡ false
    → Serves shared shared h (Cbo op address) (Fault Outside)
below_outside shared op h address low none =
    unchanged shared h (Cbo op address) (Fault Outside) (rw (flat_ram (ram_bytes shared.ram) (line_bytes (lines_shown shared)) address low, none) refl)
    refl refl refl refl refl

pub clean_refused : (shared : SharedView) (op : CacheOp) (h address offset : ℕ) (fault : StepFault)
    → AreLines (lines_shown shared) → address ≡ PERSISTENT_BASE + offset → offset < 64 * length shared.cache.lines
    → IsEventFault shared.trace fault → RefusesRequest shared h (Cbo op address) fault
clean_refused shared op h address offset fault whole place there reason = record {
  event = rw (byte_there shared address offset whole place there) (ap (λ (l : List Event). length l) (in_persistent address _ (omega arith)));
  reason = reason;
}

pub no_byte_past : (shared : SharedView) (address : ℕ) → PERSISTENT_BASE ≤ address
    → 64 * length shared.cache.lines ≤ address - PERSISTENT_BASE → memory_of shared address ≡ None
no_byte_past shared address above past =
    let place : address ≡ PERSISTENT_BASE + (address - PERSISTENT_BASE) = omega arith in
    let count = count_shown shared in
    let beyond : 64 * length (lines_shown shared) ≤ address - PERSISTENT_BASE = omega arith in
    rw place (flat_persistent (ram_bytes shared.ram) (line_bytes (lines_shown shared)) (address - PERSISTENT_BASE)
    ∙ past_lines (lines_shown shared) (address - PERSISTENT_BASE) beyond)

pub byte_past : (ram : RamView) (lines : List (List ℕ)) (address offset : ℕ) → address ≡ PERSISTENT_BASE + offset
    → flat (ram_bytes ram) (line_bytes lines) address ≡ line_bytes lines offset
byte_past ram lines address offset place = rw place (flat_persistent (ram_bytes ram) (line_bytes lines) offset)
