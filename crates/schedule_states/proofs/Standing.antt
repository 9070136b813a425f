-- A state goes on standing for what a schedule leads to.
use Rattle.std.proofs.Common.{◌≡◌, ◌≢◌, ◌⊎◌, inl, inr, ℕ, zero, suc, ◌≤◌, Option, Some, None, slice_get, slice_set, refl, sym, ap, ◌∙◌, subst}
use Rattle.std.proofs.lemmas.Bool.{cases_eq}
use Rattle.std.proofs.lemmas.List.{length-set}
use Rattle.std.proofs.lemmas.Option.{same_Some, slice_get_within}
use Rattle.bus.proofs.Following.{asking_stays, stopped_stays}
use Rattle.bus.proofs.Places.{got_else, got_set}
use Rattle.bus.specs.Alone.{Asks, GoesAlone, LeavesAlone, StepsAlone}
use Rattle.hart.specs.Needs.{Needs}
use Rattle.hart.specs.declared.need.Need.{Need}
use Rattle.hart.specs.declared.need.Need.TheVariants.{Local, Ask, Stop}
use Rattle.hart.specs.declared.need.Request.{Request}
use Rattle.hart.specs.declared.state.HartState.{HartState}
use Rattle.hart.specs.declared.state.Status.{Status}
use Rattle.hart.specs.declared.state.Status.TheVariants.{Running, Exited, Trapped}
use Rattle.line_memory.specs.Memory.{Memory}
use Rattle.machine.proofs.Determined.{needs_once}
use Rattle.machine.specs.Replies.{SharedState, trace_in}
use Rattle.machine.specs.Run.{Config, HartSteps, HartStepsIfThere, Meets, StepsTo, fetched, with_hart}
use Rattle.machine.specs.declared.schedule.items.Step.{Step}
use Rattle.machine.specs.declared.schedule.items.Step.TheVariants.{Hart, Evict}
use Rattle.schedule_states.specs.Ahead.{ComesAlone}
use Rattle.schedule_states.specs.States.{AsksTo, IsHartOf, IsReady, PartsView, StandsFor, text_for}
use Rattle.schedule_states.specs.declared.program_state.HartPart.{HartPart}
use Rattle.schedule_states.specs.declared.program_state.ProgramState.{ProgramState}

-- steps of the registers alone, the first of them first
leaves_once : (s t u : HartState) (need : Need) → LeavesAlone s need t → LeavesAlone s need u → t ≡ u
leaves_once s t u (Local after) a b = a ∙ sym b
leaves_once s t u (Stop trap) a b = a ∙ sym b
leaves_once s t u (Ask request) a b = absurd a

alone_once : (text : Memory) (s t u : HartState) → StepsAlone text s t → StepsAlone text s u → t ≡ u
alone_once text s t u a b =
    let same : a.need ≡ b.need = needs_once s (fetched text s.pc) a.need b.need a.needs b.needs in
    leaves_once s t u b.need (subst (λ (need : Need). LeavesAlone s need t) same a.leaves) b.leaves

pub first_alone : (text : Memory) (n : ℕ) (s t : HartState) → GoesAlone text (suc n) s t → (first : HartState) × StepsAlone text s first × GoesAlone text n first t
first_alone text zero s t goes = (t, subst (λ (m : HartState). StepsAlone text m t) goes.1 goes.2, refl)
first_alone text (suc n) s t goes =
    let before : (first : HartState) × StepsAlone text s first × GoesAlone text n first goes.0 = first_alone text n s goes.0 goes.1 in
    (before.0, before.1, (goes.0, before.2, goes.2))

-- a hart that is ready makes no step alone
ready_stays : (text : Memory) (s t : HartState) → IsReady text s → StepsAlone text s t → ⊥
ready_stays text s t (inl asking) step = asking_stays text s t asking.0 asking.1 step
ready_stays text s t (inr stopped) step = stopped_stays text s t stopped step

still_ahead : (text : Memory) (n : ℕ) (own next ahead : HartState) → IsReady text ahead → StepsAlone text own next → GoesAlone text n own ahead →
    ComesAlone text next ahead
still_ahead text zero own next ahead ready step goes =
    absurd (ready_stays text ahead next ready (subst (λ (s : HartState). StepsAlone text s next) (sym goes) step))
still_ahead text (suc n) own next ahead ready step goes =
    let first : (f : HartState) × StepsAlone text own f × GoesAlone text n f ahead = first_alone text n own ahead goes in
    let same : first.0 ≡ next = alone_once text own first.0 next first.1 step in
    (n, subst (λ (s : HartState). GoesAlone text n s ahead) same first.2)

alone_harts : (parts : PartsView) (s : ProgramState) (c : Config) (h : ℕ) (own next : HartState) → StandsFor parts s c → slice_get c.harts h ≡ Some own →
    StepsAlone (text_for c.common h) own next → (g : ℕ) (part : HartPart) (of : HartState) → slice_get s.harts.items g ≡ Some part →
    slice_get (slice_set c.harts h next) g ≡ Some of → IsHartOf parts c.common g part of
alone_harts parts s c h own next stands here step g part of mine there = elim (cases_eq h g) [
  | inl same ↦
      let at : slice_get (slice_set c.harts h next) h ≡ Some of = subst (λ (n : ℕ). slice_get (slice_set c.harts h next) n ≡ Some of) (sym same) there in
      let is : next ≡ of = same_Some next of (sym (got_set c.harts h next (slice_get_within c.harts h own here)) ∙ at) in
      let part_here : slice_get s.harts.items h ≡ Some part = subst (λ (n : ℕ). slice_get s.harts.items n ≡ Some part) (sym same) mine in
      let before : IsHartOf parts c.common h part own = stands.harts h part own part_here here in
      let ahead : ComesAlone (text_for c.common h) next part.state =
      still_ahead (text_for c.common h) before.ahead.0 own next part.state before.ready step before.ahead.1 in
      let after : IsHartOf parts c.common h part next = record { text = before.text; ahead = ahead; ready = before.ready; reserved = before.reserved } in
      subst (λ (n : ℕ). IsHartOf parts c.common n part of) same (subst (λ (t : HartState). IsHartOf parts c.common h part t) is after)
  | inr other ↦ stands.harts g part of mine (sym (got_else c.harts h g next (λ e. other (sym e))) ∙ there)
]

-- a step of a hart's registers alone, and one that changes nothing
pub stands_alone : (parts : PartsView) (s : ProgramState) (c : Config) (h : ℕ) (own next : HartState) → StandsFor parts s c → slice_get c.harts h ≡ Some own →
    StepsAlone (text_for c.common h) own next → StandsFor parts s (with_hart c h next)
stands_alone parts s c h own next stands here step = record {
  count = stands.count ∙ sym (length-set c.harts h next);
  few = subst (λ (n : ℕ). n ≤ 8) (sym (length-set c.harts h next)) stands.few;
  harts = alone_harts parts s c h own next stands here step;
  held = stands.held;
  found = stands.found;
  memory = stands.memory;
}

-- the state stands for d still, and no event came
abbrev StandsOn : PartsView → ProgramState → Config → Config → Type 0
StandsOn parts s c d = StandsFor parts s d × (trace_in d.common ≡ trace_in c.common)

on_alone : (parts : PartsView) (s : ProgramState) (c d : Config) (h : ℕ) (own next : HartState) → StandsFor parts s c → slice_get c.harts h ≡ Some own →
    StepsAlone (text_for c.common h) own next → d ≡ with_hart c h next → StandsOn parts s c d
on_alone parts s c d h own next stands here step is =
    (subst (λ (e : Config). StandsFor parts s e) (sym is) (stands_alone parts s c h own next stands here step), ap (λ (e : Config). trace_in e.common) is)

on_still : (parts : PartsView) (s : ProgramState) (c d : Config) → StandsFor parts s c → d ≡ c → StandsOn parts s c d
on_still parts s c d stands is = (subst (λ (e : Config). StandsFor parts s e) (sym is) stands, ap (λ (e : Config). trace_in e.common) is)

hart_step : (parts : PartsView) (s : ProgramState) (c d : Config) (h : ℕ) (own : HartState) (need : Need) → StandsFor parts s c → slice_get c.harts h ≡ Some own →
    own.status ≡ Running → Needs own (fetched (text_for c.common h) own.pc) need → Meets c h own (fetched (text_for c.common h) own.pc) need d →
    StandsOn parts s c d ⊎ AsksTo c h d
hart_step parts s c d h own (Local after) stands here running needs meets =
    inl (on_alone parts s c d h own after stands here (record { need = Local after; running = running; needs = needs; leaves = refl }) meets)
hart_step parts s c d h own (Stop trap) stands here running needs meets =
    inl (on_alone parts s c d h own (record own { status = Trapped trap }) stands here
    (record { need = Stop trap; running = running; needs = needs; leaves = refl }) meets)
hart_step parts s c d h own (Ask request) stands here running needs meets = inr (record {
  own = own;
  instr = meets.0;
  request = request;
  here = here;
  asks = record { running = running; needs = needs };
  spelled = meets.1;
  is = meets.2;
})

hart_steps : (parts : PartsView) (s : ProgramState) (c d : Config) (h : ℕ) (own : HartState) (status : Status) → StandsFor parts s c → slice_get c.harts h ≡ Some own →
    own.status ≡ status → HartSteps c h own status d → StandsOn parts s c d ⊎ AsksTo c h d
hart_steps parts s c d h own Running stands here is steps = hart_step parts s c d h own steps.0 stands here is steps.1 steps.2
hart_steps parts s c d h own (Exited code) stands here is steps = inl (on_still parts s c d stands steps)
hart_steps parts s c d h own (Trapped trap) stands here is steps = inl (on_still parts s c d stands steps)

hart_there : (parts : PartsView) (s : ProgramState) (c d : Config) (h : ℕ) (there : Option HartState) → StandsFor parts s c → slice_get c.harts h ≡ there →
    HartStepsIfThere c h there d → StandsOn parts s c d ⊎ AsksTo c h d
hart_there parts s c d h None stands here steps = absurd steps
hart_there parts s c d h (Some own) stands here steps = hart_steps parts s c d h own own.status stands here refl steps

-- an eviction is seen by no hart
stands_evicted : (parts : PartsView) (s : ProgramState) (c d : Config) (line : ℕ) → StandsFor parts s c → StepsTo c (Evict line) d → StandsFor parts s d
stands_evicted parts s c d line stands step = rw step (record {
  count = stands.count;
  few = stands.few;
  harts = λ h part own mine here.
      let of : IsHartOf parts c.common h part own = stands.harts h part own mine here in
      record { text = of.text; ahead = of.ahead; ready = of.ready; reserved = of.reserved };
  held = stands.held;
  found = stands.found;
  memory = stands.memory;
})

-- a step leads to what the state stands for still, with no event, or is a request of its hart
pub stands_or_asks : (parts : PartsView) (s : ProgramState) (c d : Config) (step : Step) → StandsFor parts s c → StepsTo c step d →
    StandsOn parts s c d ⊎ ((h : ℕ) × AsksTo c h d × (step ≡ Hart h))
stands_or_asks parts s c d (Hart h) stands steps = elim (hart_there parts s c d h (slice_get c.harts h) stands refl steps) [
  | inl still ↦ inl still
  | inr asks ↦ inr (h, asks, refl)
]
stands_or_asks parts s c d (Evict line) stands steps = inl (stands_evicted parts s c d line stands steps, rw steps refl)

not_moved : (text : Memory) (n : ℕ) (s t : HartState) (request : Request) → Asks text s request → GoesAlone text n s t → t ≡ s
not_moved text zero s t request asks goes = goes
not_moved text (suc n) s t request asks goes =
    let first : (f : HartState) × StepsAlone text s f × GoesAlone text n f t = first_alone text n s t goes in
    absurd (asking_stays text s first.0 request asks first.1)

-- a hart that asks stands where its part of the state does
pub asks_itself : (parts : PartsView) (common : SharedState) (h : ℕ) (part : HartPart) (own : HartState) (request : Request) → IsHartOf parts common h part own →
    Asks (text_for common h) own request → part.state ≡ own
asks_itself parts common h part own request of asks = not_moved (text_for common h) of.ahead.0 own part.state request asks of.ahead.1

stopped_not_moved : (text : Memory) (n : ℕ) (s t : HartState) → s.status ≢ Running → GoesAlone text n s t → t ≡ s
stopped_not_moved text zero s t stopped goes = goes
stopped_not_moved text (suc n) s t stopped goes =
    let first : (f : HartState) × StepsAlone text s f × GoesAlone text n f t = first_alone text n s t goes in
    absurd (stopped_stays text s first.0 stopped first.1)

-- so does one that has stopped
pub stopped_itself : (parts : PartsView) (common : SharedState) (h : ℕ) (part : HartPart) (own : HartState) → IsHartOf parts common h part own →
    own.status ≢ Running → part.state ≡ own
stopped_itself parts common h part own of stopped = stopped_not_moved (text_for common h) of.ahead.0 own part.state stopped of.ahead.1
