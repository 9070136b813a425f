-- A request over two memories that are alike asks the same bytes, and is answered alike where it finds the same there.
use Rattle.std.proofs.Common.{◌≡◌, ℕ, ◌/◌, ◌%◌, List, [], ◌∷◌, length, Option, Some, None, Bool, true, false, is_some, nat_le, if◌then◌else◌, refl, sym, ap, ◌∙◌, inl, inr}
use Rattle.std.specs.List.{AllByRecursion}
use Rattle.std.proofs.lemmas.Bool.{cases_eq}
use Rattle.line_memory.specs.Memory.{IsWidth, Memory, fault_of, loaded_from}
use Rattle.line_memory.specs.declared.MemFault.{MemFault}
use Rattle.line_memory.specs.declared.TheConstants.{PERSISTENT_BASE}
use Rattle.line_memory.proofs.Accesses.{fault_misaligned}
use Rattle.isa_table.specs.declared.instruction.AtomicOp.{AtomicOp}
use Rattle.hart.specs.declared.need.AccessFault.TheVariants.{Outside}
use Rattle.hart.specs.declared.need.Request.{Request}
use Rattle.hart.specs.declared.need.Request.TheVariants.{Load, Store, Lr, Sc, Amo, Cbo, Fence, FenceI, Begin, End}
use Rattle.hart.specs.declared.need.Reply.{Reply}
use Rattle.hart.specs.declared.need.Reply.TheVariants.{Value, Done, Fault}
use Rattle.hart.specs.Memory.{amo_result}
use Rattle.store_trace.specs.declared.event.Event.{Event}
use Rattle.store_trace.specs.declared.event.Event.TheVariants as events
use Rattle.machine.specs.Replies.{done_unless, events_of, line_of, offset_of, outcome_unless, replied, value_unless}
use Rattle.machine.specs.Histories.{replayed}
use Rattle.machine.specs.declared.shared_memory.history.Entry.{Entry}
use Rattle.recovery.specs.Asking.{asked_at, asked_by, own_bytes}
use Rattle.verdict.specs.declared.branches.question.Question.{Question}
use Rattle.recovery.proofs.Memories.{AgreeAt, Alike, HasSame, asked_same, fault_same, loaded_there, number_same}

-- the width of what loads
abbrev pub IsSized : Request → Type 0
IsSized (Load address width) = IsWidth width
IsSized (Lr address width) = IsWidth width
IsSized (Amo op address width operand) = IsWidth width
IsSized request = Unit {0}

-- what is asked by an access that finds a number
abbrev found_by : (ℕ → ℕ) → Reply → ℕ → ℕ → List Question
found_by own (Value value) address width = asked_at own address width
found_by own reply address width = []

-- both find a number, or neither
found_same : (own : ℕ → ℕ) (fault : Option MemFault) (x y : Option ℕ) (address width : ℕ) → is_some y ≡ is_some x
    → found_by own (value_unless fault y) address width ≡ found_by own (value_unless fault x) address width
found_same own (Some f) x y address width e = refl
found_same own None None None address width e = refl
found_same own None None (Some y) address width e = cc
found_same own None (Some x) None address width e = cc
found_same own None (Some x) (Some y) address width e = refl

-- an access that finds a number finds the same bytes in both
abbrev pub FindsSame : Memory → Memory → Reply → ℕ → ℕ → Type 0
FindsSame m o (Value value) address width = HasSame m o address width
FindsSame m o reply address width = Unit {0}

-- so they find the same number
values_same : (m o : Memory) (fault : Option MemFault) (x y : Option ℕ) (address width : ℕ) → is_some y ≡ is_some x
    → (fault ≡ None → HasSame m o address width → y ≡ x)
    → FindsSame m o (value_unless fault x) address width → value_unless fault y ≡ value_unless fault x
values_same m o (Some f) x y address width e same agree = refl
values_same m o None None None address width e same agree = refl
values_same m o None None (Some y) address width e same agree = cc
values_same m o None (Some x) None address width e same agree = cc
values_same m o None (Some x) (Some y) address width e same agree = ap (λ (found : Option ℕ). value_unless None found) (same refl agree)

aligned_of : (m : Memory) (address width : ℕ) → fault_of m address width ≡ None → address % width ≡ 0
aligned_of m address width clean = elim (cases_eq (address % width) 0) [
  | inl aligned ↦ aligned
  | inr misaligned ↦ let e = fault_misaligned m address width misaligned in cc
]

number_answered : (m o : Memory) → Alike m o → (address width : ℕ) → IsWidth width
    → FindsSame m o (value_unless (fault_of m address width) (loaded_from m address width)) address width
    → value_unless (fault_of o address width) (loaded_from o address width) ≡ value_unless (fault_of m address width) (loaded_from m address width)
number_answered m o alike address width w agree =
    ap (λ (fault : Option MemFault). value_unless fault (loaded_from o address width)) (fault_same m o alike address width)
    ∙ values_same m o (fault_of m address width) (loaded_from m address width) (loaded_from o address width) address width
    (loaded_there m o alike.there address width)
    (λ clean agrees. number_same m o alike address width w (aligned_of m address width clean) agrees) agree

number_asked : (own : ℕ → ℕ) (m o : Memory) → Alike m o → (address width : ℕ)
    → found_by own (value_unless (fault_of o address width) (loaded_from o address width)) address width
    ≡ found_by own (value_unless (fault_of m address width) (loaded_from m address width)) address width
number_asked own m o alike address width =
    ap (λ (fault : Option MemFault). found_by own (value_unless fault (loaded_from o address width)) address width) (fault_same m o alike address width)
    ∙ found_same own (fault_of m address width) (loaded_from m address width) (loaded_from o address width) address width (loaded_there m o alike.there address width)

-- what is asked, by the reply
load_asks : (own : ℕ → ℕ) (address width : ℕ) (reply : Reply) → asked_by own (Load address width) reply ≡ found_by own reply address width
load_asks own address width (Value v) = refl
load_asks own address width Done = refl
load_asks own address width (Fault f) = refl

lr_asks : (own : ℕ → ℕ) (address width : ℕ) (reply : Reply) → asked_by own (Lr address width) reply ≡ found_by own reply address width
lr_asks own address width (Value v) = refl
lr_asks own address width Done = refl
lr_asks own address width (Fault f) = refl

amo_asks : (own : ℕ → ℕ) (op : AtomicOp) (address width operand : ℕ) (reply : Reply) → asked_by own (Amo op address width operand) reply ≡ found_by own reply address width
amo_asks own op address width operand (Value v) = refl
amo_asks own op address width operand Done = refl
amo_asks own op address width operand (Fault f) = refl

pub request_asks : (own : ℕ → ℕ) (m o : Memory) → Alike m o → (reserved : ℕ → Bool) (request : Request)
    → asked_by own request (replied o reserved request) ≡ asked_by own request (replied m reserved request)
request_asks own m o alike reserved (Load address width) = rw (load_asks own address width _, load_asks own address width _) (number_asked own m o alike address width)
request_asks own m o alike reserved (Lr address width) = rw (lr_asks own address width _, lr_asks own address width _) (number_asked own m o alike address width)
request_asks own m o alike reserved (Amo op address width operand) =
    rw (amo_asks own op address width operand _, amo_asks own op address width operand _) (number_asked own m o alike address width)
request_asks own m o alike reserved (Store address width value) = refl
request_asks own m o alike reserved (Sc address width value) = refl
request_asks own m o alike reserved (Cbo op address) = refl
request_asks own m o alike reserved Fence = refl
request_asks own m o alike reserved FenceI = refl
request_asks own m o alike reserved (Begin op) = refl
request_asks own m o alike reserved (End op) = refl

-- what it finds is the same where what it asks is
finds_same : (m o : Memory) (history : List Entry) (reply : Reply) (address width : ℕ) → IsWidth width → AllByRecursion (AgreeAt m o) (found_by (own_bytes history) reply address width)
    → FindsSame (replayed m history) (replayed o history) reply address width
finds_same m o history (Value v) address width w agree = asked_same m o history address width w agree
finds_same m o history Done address width w agree = tt
finds_same m o history (Fault f) address width w agree = tt

-- a request finds the same
abbrev pub AnswersSame : Memory → Memory → Request → Reply → Type 0
AnswersSame m o (Load address width) reply = FindsSame m o reply address width
AnswersSame m o (Lr address width) reply = FindsSame m o reply address width
AnswersSame m o (Amo op address width operand) reply = FindsSame m o reply address width
AnswersSame m o request reply = Unit {0}

pub answers_same : (m o : Memory) (history : List Entry) (request : Request) (reply : Reply) → IsSized request
    → AllByRecursion (AgreeAt m o) (asked_by (own_bytes history) request reply) → AnswersSame (replayed m history) (replayed o history) request reply
answers_same m o history (Load address width) reply w agree = finds_same m o history reply address width w (rw (load_asks (own_bytes history) address width reply) at agree)
answers_same m o history (Lr address width) reply w agree = finds_same m o history reply address width w (rw (lr_asks (own_bytes history) address width reply) at agree)
answers_same m o history (Amo op address width operand) reply w agree =
    finds_same m o history reply address width w (rw (amo_asks (own_bytes history) op address width operand reply) at agree)
answers_same m o history (Store address width value) reply w agree = tt
answers_same m o history (Sc address width value) reply w agree = tt
answers_same m o history (Cbo op address) reply w agree = tt
answers_same m o history Fence reply w agree = tt
answers_same m o history FenceI reply w agree = tt
answers_same m o history (Begin op) reply w agree = tt
answers_same m o history (End op) reply w agree = tt

-- and both make an event, or neither
event_if : (address : ℕ) (persistent : Bool) (e f : Event) → length (if persistent then f ∷ [] else []) ≡ length (if persistent then e ∷ [] else [])
event_if address true e f = refl
event_if address false e f = refl

amo_events : (h : ℕ) (op : AtomicOp) (address width operand : ℕ) (fault : Option MemFault) (x y : Option ℕ) → is_some y ≡ is_some x
    → length (events_of h (Amo op address width operand) (value_unless fault y)) ≡ length (events_of h (Amo op address width operand) (value_unless fault x))
amo_events h op address width operand (Some f) x y e = refl
amo_events h op address width operand None None None e = refl
amo_events h op address width operand None None (Some y) e = cc
amo_events h op address width operand None (Some x) None e = cc
amo_events h op address width operand None (Some x) (Some y) e =
    event_if address (nat_le PERSISTENT_BASE address)
    (events.Store h (line_of address) (offset_of address) width (amo_result op width x operand))
    (events.Store h (line_of address) (offset_of address) width (amo_result op width y operand))

load_events : (h address width : ℕ) (reply : Reply) → events_of h (Load address width) reply ≡ []
load_events h address width (Value v) = refl
load_events h address width Done = refl
load_events h address width (Fault f) = refl

lr_events : (h address width : ℕ) (reply : Reply) → events_of h (Lr address width) reply ≡ []
lr_events h address width (Value v) = refl
lr_events h address width Done = refl
lr_events h address width (Fault f) = refl

pub request_events : (m o : Memory) → Alike m o → (h : ℕ) (reserved : ℕ → Bool) (request : Request)
    → length (events_of h request (replied o reserved request)) ≡ length (events_of h request (replied m reserved request))
request_events m o alike h reserved (Load address width) =
    ap (λ (l : List Event). length l) (load_events h address width (replied o reserved (Load address width)) ∙ sym (load_events h address width (replied m reserved (Load address width))))
request_events m o alike h reserved (Lr address width) =
    ap (λ (l : List Event). length l) (lr_events h address width (replied o reserved (Lr address width)) ∙ sym (lr_events h address width (replied m reserved (Lr address width))))
request_events m o alike h reserved (Amo op address width operand) =
    ap (λ (fault : Option MemFault). length (events_of h (Amo op address width operand) (value_unless fault (loaded_from o address width)))) (fault_same m o alike address width)
    ∙ amo_events h op address width operand (fault_of m address width) (loaded_from m address width) (loaded_from o address width) (loaded_there m o alike.there address width)
request_events m o alike h reserved (Store address width value) =
    ap (λ (fault : Option MemFault). length (events_of h (Store address width value) (done_unless fault))) (fault_same m o alike address width)
request_events m o alike h reserved (Sc address width value) =
    ap (λ (fault : Option MemFault). length (events_of h (Sc address width value) (outcome_unless fault (reserved (address / 64))))) (fault_same m o alike address width)
request_events m o alike h reserved (Cbo op address) =
    ap (λ (there : Bool). length (events_of h (Cbo op address) (if there then Done else Fault Outside))) (alike.there address)
request_events m o alike h reserved Fence = refl
request_events m o alike h reserved FenceI = refl
request_events m o alike h reserved (Begin op) = refl
request_events m o alike h reserved (End op) = refl

pub request_same : (m o : Memory) → Alike m o → (reserved : ℕ → Bool) (request : Request) → IsSized request
    → AnswersSame m o request (replied m reserved request) → replied o reserved request ≡ replied m reserved request
request_same m o alike reserved (Load address width) w agree = number_answered m o alike address width w agree
request_same m o alike reserved (Lr address width) w agree = number_answered m o alike address width w agree
request_same m o alike reserved (Amo op address width operand) w agree = number_answered m o alike address width w agree
request_same m o alike reserved (Store address width value) w agree =
    ap (λ (fault : Option MemFault). done_unless fault) (fault_same m o alike address width)
request_same m o alike reserved (Sc address width value) w agree =
    ap (λ (fault : Option MemFault). outcome_unless fault (reserved (address / 64))) (fault_same m o alike address width)
request_same m o alike reserved (Cbo op address) w agree =
    ap (λ (there : Bool). if there then Done else Fault Outside) (alike.there address)
request_same m o alike reserved Fence w agree = refl
request_same m o alike reserved FenceI w agree = refl
request_same m o alike reserved (Begin op) w agree = refl
request_same m o alike reserved (End op) w agree = refl
