-- One step from two configurations that differ in persistent memory alone.
use Rattle.std.proofs.Common.{◌≡◌, ℕ, ◌-◌, ◌%◌, ◌==◌, ◌≤◌, List, [], ◌∷◌, ◌++◌, length, Option, Some, None, Bool, true, false, nat_le, slice_get, slice_set, refl, sym, ap, subst, ◌∙◌, inl, inr, arith, rules}
use Rattle.std.specs.List.{AllByRecursion}
use Rattle.std.proofs.lemmas.Bool.{cases_Bool}
use Rattle.std.proofs.lemmas.List.{append-nil, length-append}
use Rattle.line_memory.specs.Memory.{IsWidth, Memory}
use Rattle.isa_table.specs.declared.access.AccessSet.{AccessSet}
use Rattle.isa_table.specs.declared.instruction.Instr.{Instr}
use Rattle.isa_table.specs.declared.instruction.Instr.TheVariants as instrs
use Rattle.isa_table.specs.declared.instruction.UpperOp.TheVariants.{Lui, Auipc}
use Rattle.isa_table.specs.declared.instruction.LoadOp.{LoadOp}
use Rattle.isa_table.specs.declared.instruction.LoadOp.TheVariants.{Lb, Lh, Lw, Ld, Lbu, Lhu, Lwu}
use Rattle.isa_table.specs.declared.instruction.AtomicWidth.{AtomicWidth}
use Rattle.isa_table.specs.declared.instruction.AtomicWidth.TheVariants.{Word, Doubleword}
use Rattle.isa_table.specs.declared.instruction.AtomicOp.{AtomicOp}
use Rattle.isa_table.specs.declared.instruction.AtomicOp.TheVariants as atomics
use Rattle.isa_table.specs.declared.instruction.SystemOp.TheVariants.{Ecall, Ebreak}
use Rattle.hart.specs.Effect.{atomic_request, branches, calls, effect, fences, goes_to, jumps, next_pc, is_taken, value_of, place_of, address_of, answered}
use Rattle.hart.specs.Registers.{register, written}
use Rattle.hart.specs.Memory.{atomic_width, load_width}
use Rattle.hart.specs.Needs.{Needs, need_of}
use Rattle.hart.specs.declared.state.HartState.{HartState}
use Rattle.hart.specs.declared.state.Status.{Status}
use Rattle.hart.specs.declared.state.Status.TheVariants.{Running, Exited, Trapped}
use Rattle.hart.specs.declared.need.Need.{Need}
use Rattle.hart.specs.declared.need.Need.TheVariants.{Local, Ask, Stop}
use Rattle.hart.specs.declared.need.Reply.{Reply}
use Rattle.hart.specs.declared.need.Request.{Request}
use Rattle.hart.specs.declared.need.Request.TheVariants as requests
use Rattle.hart.specs.declared.need.Reply.TheVariants.{Value}
use Rattle.machine.specs.declared.schedule.items.Step.{Step}
use Rattle.machine.specs.declared.schedule.items.Step.TheVariants.{Hart, Evict}
use Rattle.store_trace.specs.declared.event.Event.{Event}
use Rattle.machine.specs.declared.shared_memory.history.Entry.{Entry}
use Rattle.machine.specs.declared.shared_memory.history.Entry.TheVariants.{Asked, Evicted}
use Rattle.machine.specs.Histories.{fetched_text, has_reserved, replayed}
use Rattle.machine.specs.Replies.{events_of, memory_in, replied, reply_after, shared_after, trace_in, trace_of}
use Rattle.machine.specs.Run.{Config, HartSteps, HartStepsIfThere, Meets, StepsTo, after_request, fetched, fetched_by, with_hart}
use Rattle.line_memory.specs.declared.TheConstants.{PERSISTENT_BASE}
use Rattle.recovery.specs.Asking.{asked, asked_at, asked_by, asked_if, own_bytes}
use Rattle.verdict.specs.declared.branches.question.Question.{Question}
use Rattle.recovery.proofs.Memories.{AgreeAt, Alike, copy_same, replayed_alike}
use Rattle.recovery.proofs.Replies.{AnswersSame, IsSized, answers_same, request_asks, request_events, request_same}

-- what a hart asks for loads some width
abbrev AsksSized : Need → Type 0
AsksSized (Local after) = Unit {0}
AsksSized (Ask request) = IsSized request
AsksSized (Stop trap) = Unit {0}

goes_sized : (s : HartState) (target : ℕ) → AsksSized (goes_to s target)
goes_sized s target = elim (cases_Bool (target % 4 == 0)) [ inl e ↦ rw e tt | inr e ↦ rw e tt ]

jumps_sized : (s : HartState) (number target : ℕ) → AsksSized (jumps s number target)
jumps_sized s number target = goes_sized (record s { registers = written s.registers number (next_pc s) }) target

branch_sized : (s : HartState) (taken : Bool) (target : ℕ) → AsksSized (branches s taken target)
branch_sized s true target = goes_sized s target
branch_sized s false target = tt

fence_sized : (s : HartState) (predecessor : AccessSet) → AsksSized (fences s predecessor)
fence_sized s predecessor = elim (cases_Bool predecessor.memory_writes) [ inl e ↦ rw e tt | inr e ↦ rw e tt ]

calls_sized : (s : HartState) (number argument : ℕ) → AsksSized (calls s number argument)
calls_sized s number argument = elim (cases_Bool (number == 93)) [
  | inl e ↦ rw e tt
  | inr e ↦ rw e (elim (cases_Bool (number == 2001)) [
    | inl f ↦ rw f tt
    | inr f ↦ rw f (elim (cases_Bool (number == 2002)) [ inl g ↦ rw g tt | inr g ↦ rw g tt ])
  ])
]

load_sized : (op : LoadOp) → IsWidth (load_width op)
load_sized Lb = inl refl
load_sized Lbu = inl refl
load_sized Lh = inr (inl refl)
load_sized Lhu = inr (inl refl)
load_sized Lw = inr (inr (inl refl))
load_sized Lwu = inr (inr (inl refl))
load_sized Ld = inr (inr (inr refl))

atomic_sized : (width : AtomicWidth) → IsWidth (atomic_width width)
atomic_sized Word = inr (inr (inl refl))
atomic_sized Doubleword = inr (inr (inr refl))

amo_sized : (op : AtomicOp) (address width operand : ℕ) → IsWidth width → IsSized (atomic_request op address width operand)
amo_sized atomics.Sc address width operand w = tt
amo_sized atomics.Amoswap address width operand w = w
amo_sized atomics.Amoadd address width operand w = w
amo_sized atomics.Amoxor address width operand w = w
amo_sized atomics.Amoand address width operand w = w
amo_sized atomics.Amoor address width operand w = w
amo_sized atomics.Amomin address width operand w = w
amo_sized atomics.Amomax address width operand w = w
amo_sized atomics.Amominu address width operand w = w
amo_sized atomics.Amomaxu address width operand w = w

effect_sized : (s : HartState) (i : Instr) → AsksSized (effect s i)
effect_sized s (instrs.Upper Lui rd immediate) = tt
effect_sized s (instrs.Upper Auipc rd immediate) = tt
effect_sized s (instrs.Jump rd distance) = jumps_sized s rd.number (place_of s distance)
effect_sized s (instrs.JumpRegister rd rs1 offset) = jumps_sized s rd.number (address_of s rs1 offset - address_of s rs1 offset % 2)
effect_sized s (instrs.Branch op rs1 rs2 distance) =
    branch_sized s (is_taken op (value_of s rs1) (value_of s rs2)) (place_of s distance)
effect_sized s (instrs.Load op rd rs1 offset) = load_sized op
effect_sized s (instrs.Store op rs2 rs1 offset) = tt
effect_sized s (instrs.Immediate op rd rs1 immediate) = tt
effect_sized s (instrs.Shift op rd rs1 amount) = tt
effect_sized s (instrs.Register op rd rs1 rs2) = tt
effect_sized s (instrs.Fence predecessor successor) = fence_sized s predecessor
effect_sized s instrs.FenceI = tt
effect_sized s (instrs.Cache op rs1) = tt
effect_sized s (instrs.LoadReserved width rd rs1 acquire release) = atomic_sized width
effect_sized s (instrs.Atomic op width rd rs1 rs2 acquire release) = amo_sized op _ _ _ (atomic_sized width)
effect_sized s (instrs.System Ecall) = calls_sized s (register s.registers 17) (register s.registers 10)
effect_sized s (instrs.System Ebreak) = tt

need_sized : (s : HartState) (spelled : Option Instr) → AsksSized (need_of s spelled)
need_sized s None = tt
need_sized s (Some i) = effect_sized s i

needs_sized : (s : HartState) (word : Option ℕ) (need : Need) → Needs s word need → AsksSized need
needs_sized s None need needs = rw needs tt
needs_sized s (Some w) need needs = rw needs.2 (need_sized s needs.0)

-- two configurations that differ in what was in persistent memory before their history
pub record Twins (m o : Memory) (c d : Config) : Type 0 where
  pub harts : d.harts ≡ c.harts
  pub history : d.common.history ≡ c.common.history
  pub first : c.common.initial ≡ m
  pub other : d.common.initial ≡ o

pub memory_here : (m o : Memory) (c d : Config) → Twins m o c d → memory_in c.common ≡ replayed m c.common.history
memory_here m o c d twins = ap (λ (memory : Memory). replayed memory c.common.history) twins.first

pub memory_there : (m o : Memory) (c d : Config) → Twins m o c d → memory_in d.common ≡ replayed o c.common.history
memory_there m o c d twins =
    ap (λ (memory : Memory). replayed memory d.common.history) twins.other ∙ ap (λ (history : List Entry). replayed o history) twins.history

-- what the step of a configuration is for its twin: both ask the same, and stay twins where the memories agree on it
pub record Follows (m o : Memory) (c d c2 d2 : Config) : Type 0 where
  pub questions : List Question
  pub here : asked c2.common.history ≡ asked c.common.history ++ questions
  pub there : asked d2.common.history ≡ asked d.common.history ++ questions
  pub few : length questions ≤ 1
  pub events : length (trace_in d2.common) ≡ length (trace_in c2.common)
  pub same : AllByRecursion (AgreeAt m o) questions → Twins m o c2 d2

follows_none : (m o : Memory) (c d c2 d2 : Config) → c2.common.history ≡ c.common.history → d2.common.history ≡ d.common.history
    → Twins m o c2 d2 → Follows m o c d c2 d2
follows_none m o c d c2 d2 e f twins = record {
  questions = [];
  here = ap asked e ∙ sym (append-nil (asked c.common.history));
  there = ap asked f ∙ sym (append-nil (asked d.common.history));
  few = search rules;
  events = ap (λ (history : List Entry). length (trace_of history)) twins.history;
  same = λ agree. twins;
}

with_hart_twins : (m o : Memory) (c d : Config) (h : ℕ) (s : HartState) → Twins m o c d → Twins m o (with_hart c h s) (with_hart d h s)
with_hart_twins m o c d h s twins = record {
  harts = ap (λ (harts : List HartState). slice_set harts h s) twins.harts;
  history = twins.history;
  first = twins.first;
  other = twins.other;
}

-- both fetch the same word
pub word_same : (m o : Memory) (c d : Config) (h pc : ℕ) → Alike m o → Twins m o c d → fetched_by d h pc ≡ fetched_by c h pc
word_same m o c d h pc alike twins =
    ap (λ (text : Memory). fetched text pc)
    (ap (λ (memory : Memory). fetched_text memory h d.common.history) twins.other
    ∙ ap (λ (history : List Entry). fetched_text o h history) twins.history
    ∙ copy_same m o h c.common.history alike
    ∙ ap (λ (memory : Memory). fetched_text memory h c.common.history) (sym twins.first))

memories_alike : (m o : Memory) (c d : Config) → Alike m o → Twins m o c d → Alike (memory_in c.common) (memory_in d.common)
memories_alike m o c d alike twins =
    let now : Alike (replayed m c.common.history) (replayed o c.common.history) = replayed_alike m o c.common.history alike in
    rw (memory_here m o c d twins, memory_there m o c d twins) now

few_if : (l bytes : ℕ) → length (asked_if l bytes) ≤ 1
few_if l bytes = elim (cases_Bool (bytes == 0)) [ inl t ↦ rw t (search rules) | inr f ↦ rw f (search rules) ]

few_at : (own : ℕ → ℕ) (address width : ℕ) → length (asked_at own address width) ≤ 1
few_at own address width = elim (cases_Bool (nat_le PERSISTENT_BASE address)) [ inl t ↦ rw t (few_if _ _) | inr f ↦ rw f (search rules) ]

few_asked : (own : ℕ → ℕ) (request : Request) (reply : Reply) → length (asked_by own request reply) ≤ 1
few_asked own (requests.Load address width) (Value v) = few_at own address width
few_asked own (requests.Lr address width) (Value v) = few_at own address width
few_asked own (requests.Amo op address width operand) (Value v) = few_at own address width
few_asked own request reply = search rules

-- the replies to the same request
replies_ask : (m o : Memory) (c d : Config) (h : ℕ) (request : Request) → Alike m o → Twins m o c d
    → asked_by (own_bytes d.common.history) request (reply_after d.common h request) ≡ asked_by (own_bytes c.common.history) request (reply_after c.common h request)
replies_ask m o c d h request alike twins =
    ap (λ (history : List Entry). asked_by (own_bytes history) request (replied (memory_in d.common) (has_reserved history h) request)) twins.history
    ∙ request_asks (own_bytes c.common.history) (memory_in c.common) (memory_in d.common) (memories_alike m o c d alike twins) (has_reserved c.common.history h) request

replies_same : (m o : Memory) (c d : Config) (h : ℕ) (request : Request) → Alike m o → Twins m o c d → IsSized request
    → AllByRecursion (AgreeAt m o) (asked_by (own_bytes c.common.history) request (reply_after c.common h request))
    → reply_after d.common h request ≡ reply_after c.common h request
replies_same m o c d h request alike twins sized agree =
    let reply : Reply = reply_after c.common h request in
    let now : AnswersSame (replayed m c.common.history) (replayed o c.common.history) request reply = answers_same m o c.common.history request reply sized agree in
    let each : AnswersSame (memory_in c.common) (memory_in d.common) request reply =
    subst (λ (x : Memory). AnswersSame x (memory_in d.common) request reply) (sym (memory_here m o c d twins))
    (subst (λ (y : Memory). AnswersSame (replayed m c.common.history) y request reply) (sym (memory_there m o c d twins)) now) in
    ap (λ (history : List Entry). replied (memory_in d.common) (has_reserved history h) request) twins.history
    ∙ request_same (memory_in c.common) (memory_in d.common) (memories_alike m o c d alike twins) (has_reserved c.common.history h) request sized each

request_twins : (m o : Memory) (c d : Config) (h : ℕ) (s : HartState) (i : Instr) (request : Request) → Twins m o c d
    → reply_after d.common h request ≡ reply_after c.common h request
    → Twins m o (after_request c h s i request) (after_request d h s i request)
request_twins m o c d h s i request twins same = record {
  harts =
      ap (λ (reply : Reply). slice_set d.harts h (answered s i reply)) same
      ∙ ap (λ (harts : List HartState). slice_set harts h (answered s i (reply_after c.common h request))) twins.harts;
  history =
      ap (λ (reply : Reply). Asked h request reply ∷ d.common.history) same
      ∙ ap (λ (history : List Entry). Asked h request (reply_after c.common h request) ∷ history) twins.history;
  first = twins.first;
  other = twins.other;
}

replies_events : (m o : Memory) (c d : Config) (h : ℕ) (request : Request) → Alike m o → Twins m o c d
    → length (events_of h request (reply_after d.common h request)) ≡ length (events_of h request (reply_after c.common h request))
replies_events m o c d h request alike twins =
    ap (λ (history : List Entry). length (events_of h request (replied (memory_in d.common) (has_reserved history h) request))) twins.history
    ∙ request_events (memory_in c.common) (memory_in d.common) (memories_alike m o c d alike twins) h (has_reserved c.common.history h) request

lengths_joined : (a b x y : List Event) → b ≡ a → length y ≡ length x → length (b ++ y) ≡ length (a ++ x)
lengths_joined a b x y e f =
    let p = length-append a x in
    let q = length-append b y in
    let r = ap (λ (l : List Event). length l) e in
    omega arith

trace_lengths : (m o : Memory) (c d : Config) (h : ℕ) (request : Request) → Alike m o → Twins m o c d
    → length (trace_in (shared_after d.common h request)) ≡ length (trace_in (shared_after c.common h request))
trace_lengths m o c d h request alike twins =
    lengths_joined (trace_in c.common) (trace_in d.common) (events_of h request (reply_after c.common h request)) (events_of h request (reply_after d.common h request))
    (ap (λ (history : List Entry). trace_of history) twins.history) (replies_events m o c d h request alike twins)

request_follows : (m o : Memory) (c d : Config) (h : ℕ) (s : HartState) (i : Instr) (request : Request) → Alike m o → Twins m o c d → IsSized request
    → Follows m o c d (after_request c h s i request) (after_request d h s i request)
request_follows m o c d h s i request alike twins sized = record {
  questions = asked_by (own_bytes c.common.history) request (reply_after c.common h request);
  here = refl;
  there = ap (λ (questions : List Question). asked d.common.history ++ questions) (replies_ask m o c d h request alike twins);
  few = few_asked (own_bytes c.common.history) request (reply_after c.common h request);
  events = trace_lengths m o c d h request alike twins;
  same = λ agree. request_twins m o c d h s i request twins (replies_same m o c d h request alike twins sized agree);
}

-- the step of the twin
pub record HartTwinSteps (m o : Memory) (c d : Config) (h : ℕ) (s : HartState) (status : Status) (c2 : Config) : Type 0 where
  pub end : Config
  pub steps : HartSteps d h s status end
  pub follows : Follows m o c d c2 end

pub record NeedTwin (m o : Memory) (c d : Config) (h : ℕ) (s : HartState) (word : Option ℕ) (need : Need) (c2 : Config) : Type 0 where
  pub end : Config
  pub meets : Meets d h s word need end
  pub follows : Follows m o c d c2 end

need_twin : (m o : Memory) (c d : Config) (h : ℕ) (s : HartState) (word : Option ℕ) (need : Need) (c2 : Config) → Alike m o → Twins m o c d
    → AsksSized need → Meets c h s word need c2 → NeedTwin m o c d h s word need c2
need_twin m o c d h s word (Local after) c2 alike twins sized e = record {
  end = with_hart d h after;
  meets = refl;
  follows = rw e (follows_none m o c d (with_hart c h after) (with_hart d h after) refl refl (with_hart_twins m o c d h after twins));
}
need_twin m o c d h s word (Stop trap) c2 alike twins sized e =
    let after : HartState = record s { status = Trapped trap } in record {
      end = with_hart d h after;
      meets = refl;
      follows = rw e (follows_none m o c d (with_hart c h after) (with_hart d h after) refl refl (with_hart_twins m o c d h after twins));
    }
need_twin m o c d h s word (Ask request) c2 alike twins sized x = record {
  end = after_request d h s x.0 request;
  meets = (x.0, x.1, refl);
  follows = rw x.2 (request_follows m o c d h s x.0 request alike twins sized);
}

hart_twin : (m o : Memory) (c d : Config) (h : ℕ) (s : HartState) (status : Status) (c2 : Config) → Alike m o → Twins m o c d
    → HartSteps c h s status c2 → HartTwinSteps m o c d h s status c2
hart_twin m o c d h s Running c2 alike twins x =
    let n = need_twin m o c d h s (fetched_by c h s.pc) x.0 c2 alike twins (needs_sized s (fetched_by c h s.pc) x.0 x.1) x.2 in record {
      end = n.end;
      steps = rw (word_same m o c d h s.pc alike twins) (x.0, x.1, n.meets);
      follows = n.follows;
    }
hart_twin m o c d h s (Exited code) c2 alike twins e =
    record { end = d; steps = refl; follows = rw e (follows_none m o c d c d refl refl twins) }
hart_twin m o c d h s (Trapped trap) c2 alike twins e =
    record { end = d; steps = refl; follows = rw e (follows_none m o c d c d refl refl twins) }

pub record ThereTwin (m o : Memory) (c d : Config) (h : ℕ) (state : Option HartState) (c2 : Config) : Type 0 where
  pub end : Config
  pub steps : HartStepsIfThere d h state end
  pub follows : Follows m o c d c2 end

there_twin : (m o : Memory) (c d : Config) (h : ℕ) (state : Option HartState) (c2 : Config) → Alike m o → Twins m o c d
    → HartStepsIfThere c h state c2 → ThereTwin m o c d h state c2
there_twin m o c d h None c2 alike twins x = absurd x
there_twin m o c d h (Some s) c2 alike twins x =
    let n = hart_twin m o c d h s s.status c2 alike twins x in
    record { end = n.end; steps = n.steps; follows = n.follows }

pub record TwinSteps (m o : Memory) (c d : Config) (step : Step) (c2 : Config) : Type 0 where
  pub end : Config
  pub steps : StepsTo d step end
  pub follows : Follows m o c d c2 end

evicted : Config → ℕ → Config
evicted c line = record c { common = record c.common { history = Evicted line ∷ c.common.history } }

evict_follows : (m o : Memory) (c d : Config) (line : ℕ) → Twins m o c d → Follows m o c d (evicted c line) (evicted d line)
unfolding evicted
evict_follows m o c d line twins = record {
  questions = [];
  here = sym (append-nil (asked c.common.history));
  there = sym (append-nil (asked d.common.history));
  few = search rules;
  events = ap (λ (history : List Entry). length (trace_of history)) twins.history;
  same = λ agree. record {
    harts = twins.harts;
    history = ap (λ (history : List Entry). Evicted line ∷ history) twins.history;
    first = twins.first;
    other = twins.other;
  };
}

state_moved : (d e : Config) (h : ℕ) (o p : Option HartState) → o ≡ p → HartStepsIfThere d h p e → HartStepsIfThere d h o e
state_moved d e h o p same x = rw same x

pub twin_steps : (m o : Memory) (c d : Config) (step : Step) (c2 : Config) → Alike m o → Twins m o c d → StepsTo c step c2 → TwinSteps m o c d step c2
unfolding evicted
twin_steps m o c d (Hart h) c2 alike twins x =
    let n = there_twin m o c d h (slice_get c.harts h) c2 alike twins x in
    record { end = n.end; steps = state_moved d n.end h (slice_get d.harts h) (slice_get c.harts h) (ap (λ (harts : List HartState). slice_get harts h) twins.harts) n.steps; follows = n.follows }
twin_steps m o c d (Evict line) c2 alike twins e =
    record { end = evicted d line; steps = refl; follows = rw e (evict_follows m o c d line twins) }
