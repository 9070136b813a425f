-- The events of a recovery run name lines of its image.
use Rattle.std.proofs.Common.{◌≡◌, ℕ, zero, suc, ◌+◌, ◌-◌, ◌*◌, ◌/◌, ◌%◌, ◌==◌, ◌<◌, ◌≤◌, List, length, Option, Some, None, Bool, true, false, is_some, if◌then◌else◌, slice_get, refl, sym, ap, subst, ◌∙◌, inl, inr, arith, rules}
use Rattle.std.specs.Prelude.{All}
use Rattle.std.proofs.lemmas.Bool.{cases_Bool, cases_lt, le-leb, lt-leb}
use Rattle.std.proofs.lemmas.List.Elements.{All-append, All-nil}
use Rattle.hart.specs.Effect.{atomic_request, branches, calls, effect, fences, goes_to, jumps, next_pc, is_taken, value_of, place_of, address_of}
use Rattle.hart.specs.Memory.{amo_result, atomic_width, store_width}
use Rattle.hart.specs.Needs.{Needs, need_of}
use Rattle.hart.specs.Registers.{register, written}
use Rattle.hart.specs.declared.need.AccessFault.TheVariants.{Outside}
use Rattle.hart.specs.declared.need.Need.{Need}
use Rattle.hart.specs.declared.need.Need.TheVariants.{Local, Ask, Stop}
use Rattle.hart.specs.declared.need.Reply.{Reply}
use Rattle.hart.specs.declared.need.Reply.TheVariants.{Done, Fault}
use Rattle.hart.specs.declared.need.Request.{Request}
use Rattle.hart.specs.declared.need.Request.TheVariants as requests
use Rattle.hart.specs.declared.state.HartState.{HartState}
use Rattle.hart.specs.declared.state.Status.{Status}
use Rattle.hart.specs.declared.state.Status.TheVariants.{Running, Exited, Trapped}
use Rattle.isa_table.specs.declared.access.AccessSet.{AccessSet}
use Rattle.isa_table.specs.declared.instruction.AtomicOp.{AtomicOp}
use Rattle.isa_table.specs.declared.instruction.AtomicOp.TheVariants as atomics
use Rattle.isa_table.specs.declared.instruction.AtomicWidth.{AtomicWidth}
use Rattle.isa_table.specs.declared.instruction.AtomicWidth.TheVariants.{Word, Doubleword}
use Rattle.isa_table.specs.declared.instruction.CacheOp.{CacheOp}
use Rattle.isa_table.specs.declared.instruction.Instr.{Instr}
use Rattle.isa_table.specs.declared.instruction.Instr.TheVariants as instrs
use Rattle.isa_table.specs.declared.instruction.StoreOp.{StoreOp}
use Rattle.isa_table.specs.declared.instruction.StoreOp.TheVariants.{Sb, Sh, Sw, Sd}
use Rattle.isa_table.specs.declared.instruction.SystemOp.TheVariants.{Ecall, Ebreak}
use Rattle.isa_table.specs.declared.instruction.UpperOp.TheVariants.{Lui, Auipc}
use Rattle.line_memory.proofs.Accesses.{fault_outside, some_width, stored_to_above}
use Rattle.line_memory.proofs.Flat.{flat_persistent, past_lines}
use Rattle.line_memory.proofs.Maps.{loaded_none}
use Rattle.line_memory.specs.Lines.{line_bytes}
use Rattle.line_memory.specs.Memory.{IsWidth, Memory, fault_of, loaded_from}
use Rattle.line_memory.specs.declared.MemFault.{MemFault}
use Rattle.line_memory.specs.declared.TheConstants.{PERSISTENT_BASE}
use Rattle.machine.proofs.Serving.{aligned_of}
use Rattle.machine.specs.Histories.{Write, has_reserved, memory_after, memory_with}
use Rattle.machine.specs.Replies.{SharedState, done_unless, events_of, events_of_write, if_persistent, line_of, memory_in, outcome_unless, reply_after, shared_after, shared_at_start, starting_memory, trace_in, value_unless, replied}
use Rattle.machine.specs.Run.{Config, HartSteps, HartStepsIfThere, Meets, started}
use Rattle.program.specs.Sections.{Sections}
use Rattle.recovery.specs.Recovery.{RunsFor}
use Rattle.store_trace.specs.TraceView.{NamesLine}
use Rattle.store_trace.specs.declared.event.Event.{Event}

-- what a hart asks to store has some width
abbrev HasWidth : Request → Type 0
HasWidth (requests.Store address width value) = IsWidth width
HasWidth (requests.Sc address width value) = IsWidth width
HasWidth (requests.Amo op address width operand) = IsWidth width
HasWidth request = Unit {0}

abbrev AsksWide : Need → Type 0
AsksWide (Local after) = Unit {0}
AsksWide (Ask request) = HasWidth request
AsksWide (Stop trap) = Unit {0}

goes_wide : (s : HartState) (target : ℕ) → AsksWide (goes_to s target)
goes_wide s target = elim (cases_Bool (target % 4 == 0)) [ inl e ↦ rw e tt | inr e ↦ rw e tt ]

jumps_wide : (s : HartState) (number target : ℕ) → AsksWide (jumps s number target)
jumps_wide s number target = goes_wide (record s { registers = written s.registers number (next_pc s) }) target

branch_wide : (s : HartState) (taken : Bool) (target : ℕ) → AsksWide (branches s taken target)
branch_wide s true target = goes_wide s target
branch_wide s false target = tt

fence_wide : (s : HartState) (predecessor : AccessSet) → AsksWide (fences s predecessor)
fence_wide s predecessor = elim (cases_Bool predecessor.memory_writes) [ inl e ↦ rw e tt | inr e ↦ rw e tt ]

calls_wide : (s : HartState) (number argument : ℕ) → AsksWide (calls s number argument)
calls_wide s number argument = elim (cases_Bool (number == 93)) [
  | inl e ↦ rw e tt
  | inr e ↦ rw e (elim (cases_Bool (number == 2001)) [
    | inl f ↦ rw f tt
    | inr f ↦ rw f (elim (cases_Bool (number == 2002)) [ inl g ↦ rw g tt | inr g ↦ rw g tt ])
  ])
]

store_wide : (op : StoreOp) → IsWidth (store_width op)
store_wide Sb = inl refl
store_wide Sh = inr (inl refl)
store_wide Sw = inr (inr (inl refl))
store_wide Sd = inr (inr (inr refl))

atomic_wide : (width : AtomicWidth) → IsWidth (atomic_width width)
atomic_wide Word = inr (inr (inl refl))
atomic_wide Doubleword = inr (inr (inr refl))

request_wide : (op : AtomicOp) (address width operand : ℕ) → IsWidth width → HasWidth (atomic_request op address width operand)
request_wide atomics.Sc address width operand w = w
request_wide atomics.Amoswap address width operand w = w
request_wide atomics.Amoadd address width operand w = w
request_wide atomics.Amoxor address width operand w = w
request_wide atomics.Amoand address width operand w = w
request_wide atomics.Amoor address width operand w = w
request_wide atomics.Amomin address width operand w = w
request_wide atomics.Amomax address width operand w = w
request_wide atomics.Amominu address width operand w = w
request_wide atomics.Amomaxu address width operand w = w

effect_wide : (s : HartState) (i : Instr) → AsksWide (effect s i)
effect_wide s (instrs.Upper Lui rd immediate) = tt
effect_wide s (instrs.Upper Auipc rd immediate) = tt
effect_wide s (instrs.Jump rd distance) = jumps_wide s rd.number (place_of s distance)
effect_wide s (instrs.JumpRegister rd rs1 offset) = jumps_wide s rd.number (address_of s rs1 offset - address_of s rs1 offset % 2)
effect_wide s (instrs.Branch op rs1 rs2 distance) = branch_wide s (is_taken op (value_of s rs1) (value_of s rs2)) (place_of s distance)
effect_wide s (instrs.Load op rd rs1 offset) = tt
effect_wide s (instrs.Store op rs2 rs1 offset) = store_wide op
effect_wide s (instrs.Immediate op rd rs1 immediate) = tt
effect_wide s (instrs.Shift op rd rs1 amount) = tt
effect_wide s (instrs.Register op rd rs1 rs2) = tt
effect_wide s (instrs.Fence predecessor successor) = fence_wide s predecessor
effect_wide s instrs.FenceI = tt
effect_wide s (instrs.Cache op rs1) = tt
effect_wide s (instrs.LoadReserved width rd rs1 acquire release) = tt
effect_wide s (instrs.Atomic op width rd rs1 rs2 acquire release) = request_wide op _ _ _ (atomic_wide width)
effect_wide s (instrs.System Ecall) = calls_wide s (register s.registers 17) (register s.registers 10)
effect_wide s (instrs.System Ebreak) = tt

need_wide : (s : HartState) (spelled : Option Instr) → AsksWide (need_of s spelled)
need_wide s None = tt
need_wide s (Some i) = effect_wide s i

needs_wide : (s : HartState) (word : Option ℕ) (need : Need) → Needs s word need → AsksWide need
needs_wide s None need needs = rw needs tt
needs_wide s (Some w) need needs = rw needs.2 (need_wide s needs.0)

-- no byte is there past so many lines, and the events so far name these
record StaysInside (n : ℕ) (c : SharedState) : Type 0 where
  past : (a : ℕ) → PERSISTENT_BASE + 64 * n ≤ a → memory_in c a ≡ None
  named : All (NamesLine n) (trace_in c)

-- an access that can be made lies before that
before_end : (n address width : ℕ) → IsWidth width → address % width ≡ 0 → address < PERSISTENT_BASE + 64 * n → address + width ≤ PERSISTENT_BASE + 64 * n
before_end n address width (inl e) h low = omega arith
before_end n address width (inr (inl e)) h low = let a = rw e at h in omega arith
before_end n address width (inr (inr (inl e))) h low = let a = rw e at h in omega arith
before_end n address width (inr (inr (inr e))) h low = let a = rw e at h in omega arith

inside : (n : ℕ) (memory : Memory) (address width : ℕ) → ((a : ℕ) → PERSISTENT_BASE + 64 * n ≤ a → memory a ≡ None) → IsWidth width
    → fault_of memory address width ≡ None → address + width ≤ PERSISTENT_BASE + 64 * n
inside n memory address width past w none = elim (cases_lt address (PERSISTENT_BASE + 64 * n)) [
  | inl low ↦ before_end n address width w (aligned_of memory address width none) low
  | inr high ↦
      let out = fault_outside memory address width (aligned_of memory address width none) (loaded_none memory address width (some_width width w) (past address high)) in
      absurd (cc)
]

if_named : (n address : ℕ) (event : Event) → (PERSISTENT_BASE ≤ address → NamesLine n event) → All (NamesLine n) (if_persistent address event)
if_named n address event named = elim (cases_lt address PERSISTENT_BASE) [
  | inl low ↦ rw (lt-leb PERSISTENT_BASE address low) (All-nil (NamesLine n))
  | inr above ↦ let here = named above in rw (le-leb PERSISTENT_BASE address above) (search rules)
]

-- a write that can be made
record WritesInside (n h : ℕ) (memory : Memory) (write : Option Write) : Type 0 where
  past : (a : ℕ) → PERSISTENT_BASE + 64 * n ≤ a → memory_with memory write a ≡ None
  named : All (NamesLine n) (events_of_write h write)

none_written : (n h : ℕ) (memory : Memory) → ((a : ℕ) → PERSISTENT_BASE + 64 * n ≤ a → memory a ≡ None) → WritesInside n h memory None
none_written n h memory past = record { past = past; named = All-nil (NamesLine n) }

some_written : (n h : ℕ) (memory : Memory) (write : Write) → ((a : ℕ) → PERSISTENT_BASE + 64 * n ≤ a → memory a ≡ None) → IsWidth write.width
    → fault_of memory write.address write.width ≡ None → WritesInside n h memory (Some write)
some_written n h memory write past w none =
    let fits = inside n memory write.address write.width past w none in
    let some = some_width write.width w in
    record {
      past = λ a high. stored_to_above memory write.address write.width write.value a (omega (arith, fits, high)) ∙ past a high;
      named = if_named n write.address _ (λ above. let line : line_of write.address < n = omega (arith, fits, some, above) in line);
    }

-- a request
record AsksInside (n h : ℕ) (memory : Memory) (request : Request) (reply : Reply) : Type 0 where
  past : (a : ℕ) → PERSISTENT_BASE + 64 * n ≤ a → memory_after memory request reply a ≡ None
  named : All (NamesLine n) (events_of h request reply)

by_write : (n h : ℕ) (memory : Memory) (request : Request) (reply : Reply) (write : Option Write) → WritesInside n h memory write
    → memory_after memory request reply ≡ memory_with memory write → events_of h request reply ≡ events_of_write h write → AsksInside n h memory request reply
by_write n h memory request reply write s e f = record {
  past = λ a high. ap (λ (m : Memory). m a) e ∙ s.past a high;
  named = subst (λ (es : List Event). All (NamesLine n) es) (sym f) s.named;
}

store_inside : (n h : ℕ) (memory : Memory) (address width value : ℕ) (fault : Option MemFault) → ((a : ℕ) → PERSISTENT_BASE + 64 * n ≤ a → memory a ≡ None)
    → IsWidth width → fault_of memory address width ≡ fault → AsksInside n h memory (requests.Store address width value) (done_unless fault)
store_inside n h memory address width value None past w none =
    by_write n h memory (requests.Store address width value) Done (Some (record { address = address; width = width; value = value }))
    (some_written n h memory (record { address = address; width = width; value = value }) past w none) refl refl
store_inside n h memory address width value (Some fault) past w none = record { past = past; named = All-nil (NamesLine n) }

conditional_inside : (n h : ℕ) (memory : Memory) (address width value : ℕ) (fault : Option MemFault) (reserved : Bool)
    → ((a : ℕ) → PERSISTENT_BASE + 64 * n ≤ a → memory a ≡ None) → IsWidth width → fault_of memory address width ≡ fault
    → AsksInside n h memory (requests.Sc address width value) (outcome_unless fault reserved)
conditional_inside n h memory address width value None true past w none =
    let s = some_written n h memory (record { address = address; width = width; value = value }) past w none in record { past = s.past; named = s.named }
conditional_inside n h memory address width value None false past w none = record { past = past; named = All-nil (NamesLine n) }
conditional_inside n h memory address width value (Some fault) reserved past w none = record { past = past; named = All-nil (NamesLine n) }

combined_inside : (n h : ℕ) (memory : Memory) (op : AtomicOp) (address width operand : ℕ) (fault : Option MemFault) (found : Option ℕ)
    → ((a : ℕ) → PERSISTENT_BASE + 64 * n ≤ a → memory a ≡ None) → IsWidth width → fault_of memory address width ≡ fault
    → AsksInside n h memory (requests.Amo op address width operand) (value_unless fault found)
combined_inside n h memory op address width operand None None past w none = record { past = past; named = All-nil (NamesLine n) }
combined_inside n h memory op address width operand None (Some old) past w none =
    let s = some_written n h memory (record { address = address; width = width; value = amo_result op width old operand }) past w none in
    record { past = s.past; named = s.named }
combined_inside n h memory op address width operand (Some fault) found past w none = record { past = past; named = All-nil (NamesLine n) }

there_inside : (n : ℕ) (memory : Memory) (address : ℕ) → ((a : ℕ) → PERSISTENT_BASE + 64 * n ≤ a → memory a ≡ None) → is_some (memory address) ≡ true
    → address < PERSISTENT_BASE + 64 * n
there_inside n memory address past some = elim (cases_lt address (PERSISTENT_BASE + 64 * n)) [
  | inl low ↦ low
  | inr high ↦ let none = rw (past address high) at some in absurd (cc)
]

cleaned_inside : (n h : ℕ) (memory : Memory) (op : CacheOp) (address : ℕ) (some : Bool) → ((a : ℕ) → PERSISTENT_BASE + 64 * n ≤ a → memory a ≡ None)
    → is_some (memory address) ≡ some → AsksInside n h memory (requests.Cbo op address) (if some then Done else Fault Outside)
cleaned_inside n h memory op address true past is = record {
  past = past;
  named = if_named n address _ (λ above. let low = there_inside n memory address past is in let line : line_of address < n = omega (arith, low, above) in line);
}
cleaned_inside n h memory op address false past is = record { past = past; named = All-nil (NamesLine n) }

asks_inside : (n h : ℕ) (memory : Memory) (reserved : ℕ → Bool) (request : Request) → ((a : ℕ) → PERSISTENT_BASE + 64 * n ≤ a → memory a ≡ None) → HasWidth request
    → AsksInside n h memory request (replied memory reserved request)
asks_inside n h memory reserved (requests.Load address width) past w = record { past = past; named = All-nil (NamesLine n) }
asks_inside n h memory reserved (requests.Store address width value) past w = store_inside n h memory address width value (fault_of memory address width) past w refl
asks_inside n h memory reserved (requests.Lr address width) past w = record { past = past; named = All-nil (NamesLine n) }
asks_inside n h memory reserved (requests.Sc address width value) past w =
    conditional_inside n h memory address width value (fault_of memory address width) (reserved (address / 64)) past w refl
asks_inside n h memory reserved (requests.Amo op address width operand) past w =
    combined_inside n h memory op address width operand (fault_of memory address width) (loaded_from memory address width) past w refl
asks_inside n h memory reserved (requests.Cbo op address) past w = cleaned_inside n h memory op address (is_some (memory address)) past refl
asks_inside n h memory reserved requests.Fence past w = record { past = past; named = search rules }
asks_inside n h memory reserved requests.FenceI past w = record { past = past; named = All-nil (NamesLine n) }
asks_inside n h memory reserved (requests.Begin op) past w = record { past = past; named = search rules }
asks_inside n h memory reserved (requests.End op) past w = record { past = past; named = search rules }

shared_inside : (n h : ℕ) (c : SharedState) (request : Request) → HasWidth request → StaysInside n c → StaysInside n (shared_after c h request)
shared_inside n h c request w s =
    let a = asks_inside n h (memory_in c) (has_reserved c.history h) request s.past w in record {
      past = a.past;
      named = All-append (NamesLine n) (trace_in c) (events_of h request (reply_after c h request)) s.named a.named;
    }

-- a step
meets_inside : (n : ℕ) (c : Config) (h : ℕ) (state : HartState) (word : Option ℕ) (need : Need) (d : Config) → AsksWide need → StaysInside n c.common
    → Meets c h state word need d → StaysInside n d.common
meets_inside n c h state word (Local after) d w s e = rw e s
meets_inside n c h state word (Stop trap) d w s e = rw e s
meets_inside n c h state word (Ask request) d w s (i, spelled, e) = rw e (shared_inside n h c.common request w s)

status_inside : (n : ℕ) (c : Config) (h : ℕ) (state : HartState) (status : Status) (d : Config) → StaysInside n c.common → HartSteps c h state status d
    → StaysInside n d.common
status_inside n c h state Running d s (need, needs, meets) = meets_inside n c h state _ need d (needs_wide state _ need needs) s meets
status_inside n c h state (Exited code) d s e = rw e s
status_inside n c h state (Trapped trap) d s e = rw e s

hart_inside : (n : ℕ) (c : Config) (h : ℕ) (state : Option HartState) (d : Config) → StaysInside n c.common → HartStepsIfThere c h state d → StaysInside n d.common
hart_inside n c h None d s x = absurd x
hart_inside n c h (Some state) d s x = status_inside n c h state state.status d s x

run_inside : (n : ℕ) (c : Config) (steps : ℕ) (d : Config) (full : Bool) → StaysInside n c.common → RunsFor c steps d full → StaysInside n d.common
run_inside n c zero d full s x = rw x.0 s
run_inside n c (suc steps) d full s (middle, step, inl (few, rest)) =
    run_inside n middle steps d full (hart_inside n c 0 (slice_get c.harts 0) middle s step) rest
run_inside n c (suc steps) d full s (middle, step, inr (over, e, is)) = rw e s

-- a whole run
start_inside : (program : Sections) (image : List (List ℕ)) → StaysInside (length image) (shared_at_start program image)
start_inside program image = record {
  past = λ a high.
      let place : a ≡ PERSISTENT_BASE + (a - PERSISTENT_BASE) = omega (arith, high) in
      ap (λ (address : ℕ). starting_memory program image address) place
      ∙ flat_persistent _ (line_bytes image) (a - PERSISTENT_BASE)
      ∙ past_lines image (a - PERSISTENT_BASE) (omega (arith, high));
  named = All-nil (NamesLine (length image));
}

pub run_names_lines : (program : Sections) (image : List (List ℕ)) (steps : ℕ) (end : Config) (full : Bool) → RunsFor (started program image 1) steps end full
    → All (NamesLine (length image)) (trace_in end.common)
run_names_lines program image steps end full x =
    let s = run_inside (length image) (started program image 1) steps end full (start_inside program image) x in s.named
