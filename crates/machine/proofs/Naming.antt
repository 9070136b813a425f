-- The events of a request name lines of persistent memory.
use Rattle.std.proofs.Common.{◌≡◌, ℕ, ◌+◌, ◌-◌, ◌*◌, ◌/◌, ◌%◌, ◌<◌, ◌≤◌, length, Option, Some, None, Bool, true, false, is_some, if◌then◌else◌, refl, sym, ◌∙◌, inl, inr, arith, rules}
use Rattle.std.specs.Prelude.{All}
use Rattle.std.proofs.lemmas.Bool.{cases_lt, le-leb, lt-leb}
use Rattle.std.proofs.lemmas.List.Elements.{All-append}
use Rattle.hart.specs.Memory.{amo_result}
use Rattle.isa_table.specs.declared.instruction.AtomicOp.{AtomicOp}
use Rattle.isa_table.specs.declared.instruction.CacheOp.{CacheOp}
use Rattle.hart.specs.Requests.{IsRequest}
use Rattle.hart.specs.declared.need.Request.{Request}
use Rattle.hart.specs.declared.need.Request.TheVariants as requests
use Rattle.hart.specs.declared.need.Reply.{Reply}
use Rattle.hart.specs.declared.need.Reply.TheVariants.{Done, Fault}
use Rattle.hart.specs.declared.need.AccessFault.TheVariants.{Outside}
use Rattle.line_memory.specs.Lines.{line_bytes}
use Rattle.line_memory.specs.Memory.{IsWidth, fault_of, loaded_from}
use Rattle.line_memory.specs.Regions.{ram_bytes}
use Rattle.line_memory.specs.declared.MemFault.{MemFault}
use Rattle.line_memory.specs.declared.TheConstants.{PERSISTENT_BASE}
use Rattle.line_memory.proofs.Flat.{fault_past_lines, fault_persistent}
use Rattle.store_trace.specs.TraceView.{NamesLine}
use Rattle.store_trace.specs.declared.event.Event.{Event}
use Rattle.store_trace.specs.declared.event.Event.TheVariants as events
use Rattle.machine.specs.Histories.{Write}
use Rattle.machine.specs.Replies.{done_unless, events_of, events_of_write, if_persistent, line_of, outcome_unless, value_unless}
use Rattle.machine.specs.SharedView.{Evicts, Serves, SharedView, holds, lines_shown, memory_of, reply_to}
use Rattle.machine.proofs.Serving.{aligned_of, count_shown, no_byte_past, wide}

-- an access that can be made lies in a line
inside : (shared : SharedView) (address width : ℕ) → IsWidth width → PERSISTENT_BASE ≤ address
    → fault_of (memory_of shared) address width ≡ None → line_of address < length shared.cache.lines
inside shared address width w above none =
    let offset : ℕ = address - PERSISTENT_BASE in
    let place : address ≡ PERSISTENT_BASE + (address - PERSISTENT_BASE) = omega arith in
    let found : fault_of (line_bytes (lines_shown shared)) (address - PERSISTENT_BASE) width ≡ None =
    sym (fault_persistent (ram_bytes shared.ram) (line_bytes (lines_shown shared)) (address - PERSISTENT_BASE) width w) ∙ (rw (← place) none) in
    let aligned = aligned_of (line_bytes (lines_shown shared)) (address - PERSISTENT_BASE) width found in
    let count = count_shown shared in
    elim (cases_lt (address - PERSISTENT_BASE) (64 * length shared.cache.lines)) [
      | inl there ↦ omega arith
      | inr past ↦
          let beyond : 64 * length (lines_shown shared) ≤ address - PERSISTENT_BASE = omega arith in
          let e = fault_past_lines (lines_shown shared) (address - PERSISTENT_BASE) width w aligned beyond in absurd (cc)
    ]

if_named : (count address : ℕ) (event : Event) → (PERSISTENT_BASE ≤ address → NamesLine count event)
    → All (NamesLine count) (if_persistent address event)
if_named count address event named = elim (cases_lt address PERSISTENT_BASE) [
  | inl low ↦ rw (lt-leb PERSISTENT_BASE address low) (search rules)
  | inr above ↦ let n = named above in rw (le-leb PERSISTENT_BASE address above) (search rules)
]

written_named : (shared : SharedView) (h : ℕ) (write : Write) → IsWidth write.width → fault_of (memory_of shared) write.address write.width ≡ None
    → All (NamesLine (length shared.cache.lines)) (events_of_write h (Some write))
written_named shared h write w none =
    if_named (length shared.cache.lines) write.address (events.Store h (line_of write.address) ((write.address - PERSISTENT_BASE) % 64) write.width write.value)
    (λ above. inside shared write.address write.width w above none)

-- by what keeps an access from being made
store_named : (shared : SharedView) (h address width value : ℕ) (fault : Option MemFault) → IsWidth width
    → fault_of (memory_of shared) address width ≡ fault
    → All (NamesLine (length shared.cache.lines)) (events_of h (requests.Store address width value) (done_unless fault))
store_named shared h address width value None w is = written_named shared h (record { address = address; width = width; value = value }) w is
store_named shared h address width value (Some fault) w is = search rules

conditional_named : (shared : SharedView) (h address width value : ℕ) (fault : Option MemFault) (reserved : Bool) → IsWidth width
    → fault_of (memory_of shared) address width ≡ fault
    → All (NamesLine (length shared.cache.lines)) (events_of h (requests.Sc address width value) (outcome_unless fault reserved))
conditional_named shared h address width value None true w is = written_named shared h (record { address = address; width = width; value = value }) w is
conditional_named shared h address width value None false w is = search rules
conditional_named shared h address width value (Some fault) reserved w is = search rules

combined_named : (shared : SharedView) (h : ℕ) (op : AtomicOp) (address width operand : ℕ) (fault : Option MemFault) (found : Option ℕ) → IsWidth width
    → fault_of (memory_of shared) address width ≡ fault
    → All (NamesLine (length shared.cache.lines)) (events_of h (requests.Amo op address width operand) (value_unless fault found))
combined_named shared h op address width operand None None w is = search rules
combined_named shared h op address width operand None (Some old) w is =
    written_named shared h (record { address = address; width = width; value = amo_result op width old operand }) w is
combined_named shared h op address width operand (Some fault) found w is = search rules

-- a line that has a byte is there
there : (shared : SharedView) (address : ℕ) → PERSISTENT_BASE ≤ address → is_some (memory_of shared address) ≡ true
    → line_of address < length shared.cache.lines
there shared address above some = elim (cases_lt (address - PERSISTENT_BASE) (64 * length shared.cache.lines)) [
  | inl within ↦ omega arith
  | inr past ↦ let e = no_byte_past shared address above past in let f = rw e at some in absurd (cc)
]

cleaned_named : (shared : SharedView) (h : ℕ) (op : CacheOp) (address : ℕ) (some : Bool) → is_some (memory_of shared address) ≡ some
    → All (NamesLine (length shared.cache.lines)) (events_of h (requests.Cbo op address) (if some then Done else Fault Outside))
cleaned_named shared h op address true is =
    if_named (length shared.cache.lines) address (events.Clean h (line_of address)) (λ above. there shared address above is)
cleaned_named shared h op address false is = search rules

-- the events of a request name lines
pub request_named : (shared : SharedView) (h : ℕ) (request : Request) → IsRequest request
    → All (NamesLine (length shared.cache.lines)) (events_of h request (reply_to shared h request))
request_named shared h (requests.Load address width) w = search rules
request_named shared h (requests.Store address width value) w = store_named shared h address width value (fault_of (memory_of shared) address width) w refl
request_named shared h (requests.Lr address width) w = search rules
request_named shared h (requests.Sc address width value) w =
    conditional_named shared h address width value (fault_of (memory_of shared) address width) (holds shared h (address / 64)) (wide width w) refl
request_named shared h (requests.Amo op address width operand) w =
    combined_named shared h op address width operand (fault_of (memory_of shared) address width) (loaded_from (memory_of shared) address width) (wide width w.0) refl
request_named shared h (requests.Cbo op address) w = cleaned_named shared h op address (is_some (memory_of shared address)) refl
request_named shared h requests.Fence w = search rules
request_named shared h requests.FenceI w = search rules
request_named shared h (requests.Begin op) w = search rules
request_named shared h (requests.End op) w = search rules

-- so the events of a trace name lines after it as before it
pub served_named : (old new : SharedView) (h : ℕ) (request : Request) (r : Reply) → IsRequest request → Serves old new h request r
    → All (NamesLine (length old.cache.lines)) old.trace → All (NamesLine (length new.cache.lines)) new.trace
served_named old new h request r w serves named =
    let more : All (NamesLine (length old.cache.lines)) (events_of h request r) = rw serves.reply (request_named old h request w) in
    rw (serves.steps.1.sizes.lines, serves.trace) (All-append (NamesLine (length old.cache.lines)) old.trace (events_of h request r) named more)

pub evicted_named : (old new : SharedView) (line : ℕ) → Evicts old new line
    → All (NamesLine (length old.cache.lines)) old.trace → All (NamesLine (length new.cache.lines)) new.trace
evicted_named old new line evicts named = rw (evicts.steps.sizes.lines, evicts.trace) named
