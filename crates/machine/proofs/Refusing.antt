-- When a step is refused.
use Rattle.std.proofs.Common.{◌≡◌, ℕ, ◌+◌, ◌<◌, ◌≤◌, ◌↔◌, List, length, Option, Some, None, Result, Ok, Err, IfOk, IfErr, slice_get, refl, sym, ap, ◌∙◌, arith}
use Rattle.std.proofs.lemmas.List.{length-append}
use Rattle.std.proofs.lemmas.Option.{slice_get_past, slice_get_within}
use Rattle.isa_table.specs.declared.instruction.Instr.{Instr}
use Rattle.store_trace.specs.declared.event.Event.{Event}
use Rattle.hart.specs.Needs.{IsSpelledBy, Needs, need_of}
use Rattle.hart.specs.declared.state.HartState.{HartState}
use Rattle.hart.specs.declared.state.Status.TheVariants.{Running}
use Rattle.hart.specs.declared.state.Trap.{Trap}
use Rattle.hart.specs.declared.need.Need.{Need}
use Rattle.hart.specs.declared.need.Need.TheVariants.{Local, Ask, Stop}
use Rattle.hart.specs.declared.need.Reply.{Reply}
use Rattle.hart.specs.declared.need.Request.{Request}
use Rattle.decode.specs.Decoding.{Decodes}
use Rattle.machine.specs.declared.shared_memory.fault.StepFault.{StepFault}
use Rattle.machine.specs.declared.shared_memory.fault.StepFault.TheVariants.{NoSuchHart, NoSuchLine, TraceFull, Memory as MemoryRefused, OutOfLimits}
use Rattle.machine.specs.declared.machine.Outcome.{Outcome}
use Rattle.machine.specs.declared.schedule.items.Step.{Step}
use Rattle.machine.specs.declared.schedule.items.Step.TheVariants.{Hart, Evict}
use Rattle.machine.specs.Outcomes.{HartMakesEvent, MakesEvent}
use Rattle.machine.specs.Refusals.{LacksHart, LacksLine, Refuses}
use Rattle.machine.specs.Stepped.{HasStepped}
use Rattle.machine.specs.SharedMemoryRefusals.{IsEventFault, RefusesRequest}
use Rattle.machine.specs.Run.{Config, Executes, StepsTo, after_request, fetched, fetched_by}
use Rattle.machine.specs.Replies.{events_of, reply_after, trace_in}
use Rattle.machine.specs.Represents.{IsThere, MachineView, Represents, copy_of}
use Rattle.machine.specs.SharedView.{Serves, SharedView, reply_to}
use Rattle.machine.proofs.Determined.{needs_once}
use Rattle.machine.proofs.Shown.{reply_stands}
use Rattle.machine.proofs.Stepping.{hart_steps, word_stands}

-- the instruction by which a hart asks
asks_by : (s : HartState) (w : ℕ) (request : Request) (o : Option Instr) → Decodes w o → Ask request ≡ need_of s o
    → (i : Instr) × IsSpelledBy (Some w) i
asks_by s w request None decodes e = absurd (cc)
asks_by s w request (Some i) decodes e = (i, decodes.some i refl)

asks_by_instruction : (s : HartState) (word : Option ℕ) (request : Request) → Needs s word (Ask request) → (i : Instr) × IsSpelledBy word i
asks_by_instruction s None request needs = absurd (cc)
asks_by_instruction s (Some w) request needs = asks_by s w request needs.0 needs.1 needs.2

-- what a running hart asks
running_asks : (m : MachineView) (h : ℕ) (s : HartState) (need : Need) → slice_get m.harts h ≡ Some s
    → Needs s (fetched (copy_of m h) s.pc) need → (makes : HartMakesEvent m h) → need ≡ Ask makes.request
running_asks m h s need there needs makes =
    needs_once s (fetched (copy_of m h) s.pc) need (Ask makes.request) needs (rw there at makes.asks)

-- a step that asks for nothing, and one of a hart that stopped, make no event
pub silent_alone : (m : MachineView) (h : ℕ) (s after : HartState) → slice_get m.harts h ≡ Some s
    → Needs s (fetched (copy_of m h) s.pc) (Local after) → HartMakesEvent m h → ⊥
silent_alone m h s after there needs makes = let e = running_asks m h s (Local after) there needs makes in cc

pub silent_trap : (m : MachineView) (h : ℕ) (s : HartState) (trap : Trap) → slice_get m.harts h ≡ Some s
    → Needs s (fetched (copy_of m h) s.pc) (Stop trap) → HartMakesEvent m h → ⊥
silent_trap m h s trap there needs makes = let e = running_asks m h s (Stop trap) there needs makes in cc

pub silent_stopped : (m : MachineView) (h : ℕ) (s : HartState) → slice_get m.harts h ≡ Some s → (s.status ≡ Running → ⊥)
    → HartMakesEvent m h → ⊥
silent_stopped m h s there stopped makes = stopped (rw there at makes.running)

-- a request that makes an event makes the trace one longer
pub longer : (m : MachineView) (new : SharedView) (h : ℕ) (s : HartState) (request : Request) (reply : Reply) → slice_get m.harts h ≡ Some s
    → Needs s (fetched (copy_of m h) s.pc) (Ask request) → Serves m.shared new h request reply → HartMakesEvent m h
    → length new.trace ≡ length m.shared.trace + 1
longer m new h s request reply there needs serves makes =
    let asks = running_asks m h s (Ask request) there needs makes in
    let same : request ≡ makes.request = cc in
    let one : length (events_of h request reply) ≡ 1 = rw (serves.reply, same) makes.event in
    let all = ap (λ (t : List Event). length t) serves.trace in
    let sum = length-append m.shared.trace (events_of h request reply) in
    omega arith

-- what makes an event, by the definition of a step too
executes_word : (c d : Config) (h : ℕ) (s : HartState) (word other : Option ℕ) → word ≡ other → Executes c h s word d → Executes c h s other d
executes_word c d h s word other e executes = rw e at executes

asks_longer : (m : MachineView) (h : ℕ) (s : HartState) (c : Config) (request : Request) → length m.harts ≤ 8 → Represents m c
    → slice_get m.harts h ≡ Some s → s.status ≡ Running → Needs s (fetched (copy_of m h) s.pc) (Ask request)
    → length (events_of h request (reply_to m.shared h request)) ≡ 1
    → (d : Config) × StepsTo c (Hart h) d × (length (trace_in d.common) ≡ length (trace_in c.common) + 1)
asks_longer m h s c request few stands there running needs event =
    let by = asks_by_instruction s (fetched (copy_of m h) s.pc) request needs in
    let there_too : slice_get c.harts h ≡ Some s = rw (← stands.harts) there in
    let inside : h < length m.harts = slice_get_within m.harts h s there in
    let word = word_stands m c h s.pc stands inside in
    let below : h < 8 = omega arith in
    let reply = reply_after c.common h request in
    let one : length (events_of h request reply) ≡ 1 =
    ap (λ (r : Reply). length (events_of h request r)) (sym (reply_stands m.shared h request c.common below stands.shared)) ∙ event in
    let d : Config = after_request c h s by.0 request in (
      d,
      hart_steps c d h s there_too running (executes_word c d h s (fetched (copy_of m h) s.pc) (fetched_by c h s.pc) word (Ask request, needs, (by.0, by.1, refl))),
      length-append (trace_in c.common) (events_of h request reply) ∙ ap (λ (n : ℕ). length (trace_in c.common) + n) one,
    )

hart_event_is_longer : (m : MachineView) (h : ℕ) (o : Option HartState) (c : Config) → length m.harts ≤ 8 → Represents m c → slice_get m.harts h ≡ o
    → HartMakesEvent m h → (d : Config) × StepsTo c (Hart h) d × (length (trace_in d.common) ≡ length (trace_in c.common) + 1)
hart_event_is_longer m h None c few stands there makes = absurd (rw there at makes.running)
hart_event_is_longer m h (Some s) c few stands there makes =
    asks_longer m h s c makes.request few stands there (rw there at makes.running) (rw there at makes.asks) makes.event

pub event_is_longer : (m : MachineView) (step : Step) (c : Config) → length m.harts ≤ 8 → Represents m c → MakesEvent m step
    → (d : Config) × StepsTo c step d × (length (trace_in d.common) ≡ length (trace_in c.common) + 1)
event_is_longer m (Hart h) c few stands makes = hart_event_is_longer m h (slice_get m.harts h) c few stands refl makes
event_is_longer m (Evict line) c few stands makes = absurd makes

-- a hart whose request is refused
refused_by : (m : MachineView) (h : ℕ) (fault : StepFault) → HartMakesEvent m h → IsEventFault m.shared.trace fault → Refuses m (Hart h) fault
refused_by m h TraceFull makes reason = (makes, reason)
refused_by m h MemoryRefused makes reason = (makes, reason)
refused_by m h NoSuchHart makes reason = absurd reason
refused_by m h NoSuchLine makes reason = absurd reason
refused_by m h OutOfLimits makes reason = absurd reason

pub refused_with_request : (m : MachineView) (h : ℕ) (s : HartState) (request : Request) (fault : StepFault)
    → slice_get m.harts h ≡ Some s → s.status ≡ Running → Needs s (fetched (copy_of m h) s.pc) (Ask request)
    → RefusesRequest m.shared h request fault → Refuses m (Hart h) fault
refused_with_request m h s request fault there running needs refused =
    refused_by m h fault
    (record { request = request; running = rw there running; asks = rw there needs; event = refused.event })
    refused.reason

-- there is no step of a hart that isn't there, and an eviction makes no event
no_hart_no_event : (m : MachineView) (step : Step) → LacksHart m step → MakesEvent m step → ⊥
no_hart_no_event m (Hart h) lacks makes = rw (slice_get_past m.harts h lacks) at makes.running
no_hart_no_event m (Evict line) lacks makes = lacks

no_line_no_event : (m : MachineView) (step : Step) → LacksLine m step → MakesEvent m step → ⊥
no_line_no_event m (Hart h) lacks makes = lacks
no_line_no_event m (Evict line) lacks makes = makes

no_hart_no_line : (m : MachineView) (step : Step) → LacksHart m step → LacksLine m step → ⊥
no_hart_no_line m (Hart h) hart line = line
no_hart_no_line m (Evict l) hart line = hart

there_has_hart : (m : MachineView) (step : Step) → IsThere m step → LacksHart m step → ⊥
there_has_hart m (Hart h) there lacks = omega arith
there_has_hart m (Evict line) there lacks = lacks

there_has_line : (m : MachineView) (step : Step) → IsThere m step → LacksLine m step → ⊥
there_has_line m (Hart h) there lacks = lacks
there_has_line m (Evict line) there lacks = omega arith

-- the hart, or the line, of a step that was made is there
stepped_there : (old new : MachineView) (step : Step) (outcome : Outcome) → HasStepped old new step outcome → IsThere old step
stepped_there old new step outcome made = made.runs.there 0 step (omega arith)

-- which fault a step's result is
pub no_hart_exactly : (m new : MachineView) (step : Step) (r : Result Outcome StepFault) → IfOk r (HasStepped m new step) → IfErr r (Refuses m step)
    → (r ≡ Err NoSuchHart) ↔ LacksHart m step
no_hart_exactly m new step (Ok o) made refused = (λ e. absurd (cc), λ lacks. absurd (there_has_hart m step (stepped_there m new step o made) lacks))
no_hart_exactly m new step (Err NoSuchHart) made refused = (λ e. refused, λ lacks. refl)
no_hart_exactly m new step (Err NoSuchLine) made refused = (λ e. absurd (cc), λ lacks. absurd (no_hart_no_line m step lacks refused))
no_hart_exactly m new step (Err TraceFull) made refused = (λ e. absurd (cc), λ lacks. absurd (no_hart_no_event m step lacks refused.0))
no_hart_exactly m new step (Err OutOfLimits) made refused = (λ e. absurd (cc), λ lacks. absurd refused)
no_hart_exactly m new step (Err MemoryRefused) made refused = (λ e. absurd (cc), λ lacks. absurd (no_hart_no_event m step lacks refused.0))

pub no_line_exactly : (m new : MachineView) (step : Step) (r : Result Outcome StepFault) → IfOk r (HasStepped m new step) → IfErr r (Refuses m step)
    → (r ≡ Err NoSuchLine) ↔ LacksLine m step
no_line_exactly m new step (Ok o) made refused = (λ e. absurd (cc), λ lacks. absurd (there_has_line m step (stepped_there m new step o made) lacks))
no_line_exactly m new step (Err NoSuchHart) made refused = (λ e. absurd (cc), λ lacks. absurd (no_hart_no_line m step refused lacks))
no_line_exactly m new step (Err NoSuchLine) made refused = (λ e. refused, λ lacks. refl)
no_line_exactly m new step (Err TraceFull) made refused = (λ e. absurd (cc), λ lacks. absurd (no_line_no_event m step lacks refused.0))
no_line_exactly m new step (Err OutOfLimits) made refused = (λ e. absurd (cc), λ lacks. absurd refused)
no_line_exactly m new step (Err MemoryRefused) made refused = (λ e. absurd (cc), λ lacks. absurd (no_line_no_event m step lacks refused.0))

pub full_exactly : (old new : MachineView) (step : Step) (r : Result Outcome StepFault)
    → IfOk r (HasStepped old new step)
    → length new.shared.trace ≤ 65536 → IfErr r (Refuses old step)
    → (r ≡ Err TraceFull) ↔ (MakesEvent old step × (length old.shared.trace ≡ 65536))
full_exactly old new step (Ok o) made limit refused =
    (λ e. absurd (cc), λ full. let longer = made.event full.0 in let most = full.1 in absurd (omega arith))
full_exactly old new step (Err NoSuchHart) made limit refused = (λ e. absurd (cc), λ full. absurd (no_hart_no_event old step refused full.0))
full_exactly old new step (Err NoSuchLine) made limit refused = (λ e. absurd (cc), λ full. absurd (no_line_no_event old step refused full.0))
full_exactly old new step (Err TraceFull) made limit refused = (λ e. refused, λ full. refl)
full_exactly old new step (Err OutOfLimits) made limit refused = (λ e. absurd (cc), λ full. absurd refused)
full_exactly old new step (Err MemoryRefused) made limit refused = (λ e. absurd (cc), λ full. let less = refused.1 in let all = full.1 in absurd (omega arith))

-- a step is refused for one reason
pub refused_once : (m : MachineView) (step : Step) (f g : StepFault) → Refuses m step f → Refuses m step g → f ≡ g
refused_once m step NoSuchHart NoSuchHart a b = refl
refused_once m step NoSuchHart NoSuchLine a b = absurd (no_hart_no_line m step a b)
refused_once m step NoSuchHart TraceFull a b = absurd (no_hart_no_event m step a b.0)
refused_once m step NoSuchHart OutOfLimits a b = absurd b
refused_once m step NoSuchHart MemoryRefused a b = absurd (no_hart_no_event m step a b.0)
refused_once m step NoSuchLine NoSuchHart a b = absurd (no_hart_no_line m step b a)
refused_once m step NoSuchLine NoSuchLine a b = refl
refused_once m step NoSuchLine TraceFull a b = absurd (no_line_no_event m step a b.0)
refused_once m step NoSuchLine OutOfLimits a b = absurd b
refused_once m step NoSuchLine MemoryRefused a b = absurd (no_line_no_event m step a b.0)
refused_once m step TraceFull NoSuchHart a b = absurd (no_hart_no_event m step b a.0)
refused_once m step TraceFull NoSuchLine a b = absurd (no_line_no_event m step b a.0)
refused_once m step TraceFull TraceFull a b = refl
refused_once m step TraceFull OutOfLimits a b = absurd b
refused_once m step TraceFull MemoryRefused a b = let x = a.1 in let y = b.1 in absurd (omega arith)
refused_once m step MemoryRefused NoSuchHart a b = absurd (no_hart_no_event m step b a.0)
refused_once m step MemoryRefused NoSuchLine a b = absurd (no_line_no_event m step b a.0)
refused_once m step MemoryRefused TraceFull a b = let x = a.1 in let y = b.1 in absurd (omega arith)
refused_once m step MemoryRefused OutOfLimits a b = absurd b
refused_once m step MemoryRefused MemoryRefused a b = refl
refused_once m step OutOfLimits g a b = absurd a
