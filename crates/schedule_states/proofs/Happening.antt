-- Each state that a search meets is one to which a run leads that keeps to the rule of turns.
use Rattle.std.proofs.Common.{◌≡◌, ◌⊎◌, inl, inr, ℕ, zero, suc, ◌<◌, List, [], ◌∷◌, ◌++◌, Option, Some, length, slice_get, slice_index_or, refl, sym, ap, ◌∙◌, subst}
use Rattle.std.proofs.lemmas.Option.{get_or_from_slice_get, same_Some, slice_get_within}
use Rattle.bus.proofs.Places.{got_set, there_is}
use Rattle.bus.specs.Alone.{Asks, GoesAlone, LeavesAlone, StepsAlone}
use Rattle.hart.specs.Needs.{IsSpelledBy}
use Rattle.hart.specs.declared.need.Need.{Need}
use Rattle.hart.specs.declared.need.Need.TheVariants.{Local, Ask, Stop}
use Rattle.hart.specs.declared.state.HartState.{HartState}
use Rattle.hart.specs.declared.state.Status.{Status}
use Rattle.hart.specs.declared.state.Status.TheVariants.{Running}
use Rattle.line_memory.specs.Memory.{Memory}
use Rattle.machine.proofs.Determined.{runs_once}
use Rattle.machine.proofs.RunParts.{run_joined}
use Rattle.machine.specs.Histories.{text_of}
use Rattle.machine.specs.Replies.{SharedState, memory_in, trace_in}
use Rattle.machine.specs.Run.{Config, Executes, HartSteps, HartStepsIfThere, Meets, RunsTo, StepsTo, after_request, fetched, fetched_by, started, with_hart}
use Rattle.machine.specs.declared.schedule.items.Step.{Step}
use Rattle.machine.specs.declared.schedule.items.Step.TheVariants.{Hart}
use Rattle.store_trace.specs.History.{history}
use Rattle.store_trace.specs.declared.event.Event.{Event}
use Rattle.schedule_states.proofs.Closing.{same_harts, same_memory, same_standing}
use Rattle.schedule_states.proofs.Covering.{stands_grown, stands_same}
use Rattle.schedule_states.proofs.Judging.{full_is, image_of_medium, view_of}
use Rattle.schedule_states.proofs.Numbering.{met_kept}
use Rattle.schedule_states.proofs.Standing.{first_alone, stands_alone}
use Rattle.schedule_states.specs.Covering.{IsMet, ReachedView, StandsAs}
use Rattle.schedule_states.specs.Happening.{AllHappen, AreLed, HasHappened, HasHappenedAt, IsAtRequest, IsHappening, IsLed, IsLedAs, IsLedTo}
use Rattle.schedule_states.specs.HeldLines.{on_medium}
use Rattle.schedule_states.specs.Media.{IsOnMedium}
use Rattle.schedule_states.specs.Memories.{IsMemoryOf, memory_over}
use Rattle.schedule_states.specs.Reaching.{HaveGrown}
use Rattle.schedule_states.specs.StartLines.{StartView, memory_at}
use Rattle.schedule_states.specs.States.{AsksTo, IsHartOf, IsText, PartsView, StandsFor, text_for}
use Rattle.schedule_states.specs.Successors.{IfState, IsAskingOf, memory_held}
use Rattle.schedule_states.specs.declared.held_lines.HeldLine.{HeldLine}
use Rattle.schedule_states.specs.declared.parts.Asking.{Asking}
use Rattle.schedule_states.specs.declared.program_state.ProgramState.{ProgramState}
use Rattle.schedule_states.specs.declared.program_state.StateNumbers.{StateNumbers}
use Rattle.schedule_states.specs.declared.successor.Successor.{Successor}
use Rattle.schedule_states.specs.declared.successor.Successor.TheVariants as successors

-- one step more of a run that keeps to the rule
none_in : (before after : List Step) (step : Step) → [] ≡ before ++ step ∷ after → ⊥
none_in [] after step e = cc
none_in (b ∷ before) after step e = cc

same_head : (a b : Step) (xs ys : List Step) → a ∷ xs ≡ b ∷ ys → a ≡ b
same_head a b xs ys e = cc

same_tail : (a b : Step) (xs ys : List Step) → a ∷ xs ≡ b ∷ ys → xs ≡ ys
same_tail a b xs ys e = cc

pub same_hart : (g h : ℕ) → Hart g ≡ Hart h → g ≡ h
same_hart g h e = cc

-- a step of a list with one more is that one, or stands before it
last_or_before : (steps before after : List Step) (last step : Step) → steps ++ last ∷ [] ≡ before ++ step ∷ after →
    ((before ≡ steps) × (step ≡ last)) ⊎ ((rest : List Step) × (steps ≡ before ++ step ∷ rest))
last_or_before [] [] after last step e = inl (refl, sym (same_head last step [] after e))
last_or_before [] (b ∷ before) after last step e = absurd (none_in before after step (same_tail last b [] (before ++ step ∷ after) e))
last_or_before (s ∷ steps) [] after last step e = inr (steps, ap (λ (x : Step). x ∷ steps) (same_head s step (steps ++ last ∷ []) after e))
last_or_before (s ∷ steps) (b ∷ before) after last step e =
    let head : s ≡ b = same_head s b (steps ++ last ∷ []) (before ++ step ∷ after) e in
    elim (last_or_before steps before after last step (same_tail s b (steps ++ last ∷ []) (before ++ step ∷ after) e)) [
      | inl is ↦ inl (ap (λ (x : Step). x ∷ before) (sym head) ∙ ap (λ (xs : List Step). s ∷ xs) is.0, is.1)
      | inr more ↦ inr (more.0, ap (λ (x : Step). x ∷ steps) head ∙ ap (λ (xs : List Step). b ∷ xs) more.1)
    ]

pub led_start : (allows : List Event → ℕ → Type 0) (start : Config) → IsLed allows start start
led_start allows start = record {
  steps = [];
  runs = refl;
  keeps = λ before after h c is runs. absurd (none_in before after (Hart h) is);
}

pub led_step : (allows : List Event → ℕ → Type 0) (start c d : Config) (h : ℕ) → IsLed allows start c → allows (trace_in c.common) h → StepsTo c (Hart h) d →
    IsLed allows start d
led_step allows start c d h led may step = record {
  steps = led.steps ++ Hart h ∷ [];
  runs = run_joined start c d led.steps (Hart h ∷ []) led.runs (d, step, refl);
  keeps = λ before after g e is runs. elim (last_or_before led.steps before after (Hart h) (Hart g) is) [
    | inl last ↦
        let same : e ≡ c = runs_once start led.steps e c (subst (λ (steps : List Step). RunsTo start steps e) last.0 runs) led.runs in
        subst (λ (k : ℕ). allows (trace_in e.common) k) (sym (same_hart g h last.1))
        (subst (λ (k : Config). allows (trace_in k.common) h) (sym same) may)
    | inr more ↦ led.keeps before more.0 g e more.1 runs
  ];
}

-- a step of a hart that runs
hart_makes : (c d : Config) (h : ℕ) (own : HartState) → slice_get c.harts h ≡ Some own → own.status ≡ Running → Executes c h own (fetched_by c h own.pc) d →
    StepsTo c (Hart h) d
hart_makes c d h own here running executes =
    subst (λ (there : Option HartState). HartStepsIfThere c h there d) (sym here)
    (subst (λ (status : Status). HartSteps c h own status d) (sym running) executes)

meets_alone : (c : Config) (h : ℕ) (own next : HartState) (word : Option ℕ) (need : Need) → LeavesAlone own need next → Meets c h own word need (with_hart c h next)
meets_alone c h own next word (Local after) leaves = ap (λ (t : HartState). with_hart c h t) leaves
meets_alone c h own next word (Stop trap) leaves = ap (λ (t : HartState). with_hart c h t) leaves
meets_alone c h own next word (Ask request) leaves = absurd leaves

pub steps_alone : (c : Config) (h : ℕ) (own next : HartState) → slice_get c.harts h ≡ Some own → StepsAlone (text_for c.common h) own next →
    StepsTo c (Hart h) (with_hart c h next)
steps_alone c h own next here step = hart_makes c (with_hart c h next) h own here step.running
    (step.need, step.needs, meets_alone c h own next (fetched_by c h own.pc) step.need step.leaves)

pub steps_asking : (c d : Config) (h : ℕ) → AsksTo c h d → StepsTo c (Hart h) d
steps_asking c d h to = hart_makes c d h to.own to.here to.asks.running (Ask to.request, to.asks.needs, (to.instr, to.spelled, to.is))

-- where the hart has run ahead to, behind register steps of its own
pub record IsAhead (allows : List Event → ℕ → Type 0) (start : Config) (parts : PartsView) (s : ProgramState) (c : Config) (h : ℕ) (own : HartState) : Type 0 where
  pub ready : Config
  pub led : IsLed allows start ready
  pub still : ready.common ≡ c.common
  pub stands : StandsFor parts s ready
  pub here : slice_get ready.harts h ≡ Some own

goes_ahead : (allows : List Event → ℕ → Type 0) (start : Config) (parts : PartsView) (s : ProgramState) (c : Config) (h n : ℕ) (own ahead : HartState) → IsLed allows start c →
    allows (trace_in c.common) h → StandsFor parts s c → slice_get c.harts h ≡ Some own → GoesAlone (text_for c.common h) n own ahead → IsAhead allows start parts s c h ahead
goes_ahead allows start parts s c h zero own ahead led may stands here goes = record {
  ready = c;
  led = led;
  still = refl;
  stands = stands;
  here = here ∙ ap (λ (t : HartState). Some t) (sym goes);
}
goes_ahead allows start parts s c h (suc n) own ahead led may stands here goes =
    let first : (f : HartState) × StepsAlone (text_for c.common h) own f × GoesAlone (text_for c.common h) n f ahead = first_alone (text_for c.common h) n own ahead goes in
    let next : Config = with_hart c h first.0 in
    let on : IsAhead allows start parts s next h ahead = goes_ahead allows start parts s next h n first.0 ahead
    (led_step allows start c next h led may (steps_alone c h own first.0 here first.1)) may (stands_alone parts s c h own first.0 stands here first.1)
    (got_set c.harts h first.0 (slice_get_within c.harts h own here)) first.2 in
    record { ready = on.ready; led = on.led; still = on.still; stands = on.stands; here = on.here }

pub text_read : (parts : PartsView) (number : ℕ) (text : Memory) → IsText parts number text → text_of (memory_held parts (slice_index_or parts.lists number [])) ≡ text
text_read parts number text is =
    let list : slice_index_or parts.lists number [] ≡ is.held = get_or_from_slice_get parts.lists number is.held [] is.found in
    ap (λ (held : List HeldLine). text_of (memory_over parts.table.states held (memory_at parts.table.start))) list ∙ sym is.is

-- where a run leads on to by the request of a hart that may go
pub record LeadsOn (allows : List Event → ℕ → Type 0) (start : Config) (parts : PartsView) (s : ProgramState) (c : Config) (h : ℕ) : Type 0 where
  pub ready : Config
  pub next : Config
  pub led : IsLed allows start next
  pub still : ready.common ≡ c.common
  pub stands : StandsFor parts s ready
  pub asks : AsksTo ready h next

asked : (allows : List Event → ℕ → Type 0) (start : Config) (parts : PartsView) (s : ProgramState) (c : Config) (h : ℕ) (asking : Asking) → allows (trace_in c.common) h →
    IsAhead allows start parts s c h asking.part.state → Asks (text_for c.common h) asking.part.state asking.request → IsAskingOf parts s asking →
    IsText parts asking.part.text (text_for c.common h) → LeadsOn allows start parts s c h
asked allows start parts s c h asking may ahead asks of text =
    let next : Config = after_request ahead.ready h asking.part.state asking.instr asking.request in
    let request : AsksTo ahead.ready h next = record {
      own = asking.part.state;
      instr = asking.instr;
      request = asking.request;
      here = ahead.here;
      asks = subst (λ (common : SharedState). Asks (text_for common h) asking.part.state asking.request) (sym ahead.still) asks;
      spelled = subst (λ (common : SharedState). IsSpelledBy (fetched (text_for common h) asking.part.state.pc) asking.instr) (sym ahead.still)
          (subst (λ (m : Memory). IsSpelledBy (fetched m asking.part.state.pc) asking.instr) (text_read parts asking.part.text (text_for c.common h) text) of.spelled);
      is = refl;
    } in record {
      ready = ahead.ready;
      next = next;
      led = led_step allows start ahead.ready next h ahead.led (subst (λ (common : SharedState). allows (trace_in common) h) (sym ahead.still) may)
          (steps_asking ahead.ready next h request);
      still = ahead.still;
      stands = ahead.stands;
      asks = request;
    }

pub leads_on : (allows : List Event → ℕ → Type 0) (start : Config) (parts : PartsView) (s : ProgramState) (c : Config) (h : ℕ) → IsLed allows start c →
    allows (trace_in c.common) h → StandsFor parts s c → IsAtRequest parts s h → LeadsOn allows start parts s c h
leads_on allows start parts s c h led may stands at =
    let asking : Asking = at.0 in
    let mine : slice_get s.harts.items h ≡ Some asking.part = subst (λ (k : ℕ). slice_get s.harts.items k ≡ Some asking.part) at.1 at.2.part in
    let there : h < length c.harts = subst (λ (k : ℕ). h < k) stands.count (slice_get_within s.harts.items h asking.part mine) in
    let own : (own : HartState) × (slice_get c.harts h ≡ Some own) = there_is c.harts h there in
    let is : IsHartOf parts c.common h asking.part own.0 = stands.harts h asking.part own.0 mine own.1 in
    let ahead : IsAhead allows start parts s c h asking.part.state =
    goes_ahead allows start parts s c h is.ahead.0 own.0 asking.part.state led may stands own.1 is.ahead.1 in
    let asks : Asks (text_for c.common h) asking.part.state asking.request =
    subst (λ (m : Memory). Asks m asking.part.state asking.request) (text_read parts asking.part.text (text_for c.common h) is.text) at.2.asks in
    asked allows start parts s c h asking may ahead asks at.2 is.text

-- led states stay so as the parts grow
pub led_as_kept : {T : Type 0} (stands : T → List Event → Type 0) (allows : List Event → ℕ → Type 0) (old new : ReachedView T) (s : ProgramState) (t : T) → HaveGrown old new →
    IsLedAs stands allows old s t → IsLedAs stands allows new s t
led_as_kept stands allows old new s t grown is =
    let same : started new.parts.table.start.program new.parts.table.start.medium new.harts ≡ started old.parts.table.start.program old.parts.table.start.medium old.harts =
    ap (λ (start : StartView). started start.program start.medium new.harts) grown.parts.table.start
    ∙ ap (λ (harts : ℕ). started old.parts.table.start.program old.parts.table.start.medium harts) grown.harts in record {
      end = is.end;
      led = subst (λ (start : Config). IsLed allows start is.end) (sym same) is.led;
      stands_as = (stands_grown old.parts new.parts s is.end grown.parts is.stands_as.0, is.stands_as.1);
    }

pub led_to_kept : {T : Type 0} (stands : T → List Event → Type 0) (allows : List Event → ℕ → Type 0) (old new : ReachedView T) (n : ℕ) → HaveGrown old new →
    IsLedTo stands allows old n → IsLedTo stands allows new n
led_to_kept stands allows old new n grown is = record {
  state = is.state;
  standing = is.standing;
  met = met_kept old new n is.state is.standing grown is.met;
  led_as = led_as_kept stands allows old new is.state is.standing grown is.led_as;
}

-- the moment of a state to which a run leads has happened
pub happening : {T : Type 0} (stands : T → List Event → Type 0) (allows : List Event → ℕ → Type 0) (happens : List Event → List (List ℕ) → Type 0) (r : ReachedView T) (n : ℕ) →
    AreLed stands allows r → AllHappen allows happens r.parts.table.start.program r.parts.table.start.medium r.harts → n < length r.states → IsHappening stands happens r n
happening stands allows happens r n are all there = record {
  there = there;
  happened = λ numbers found held t here kept.
      let is : IsLedTo stands allows r n = are n there in
      let of : StandsFor r.parts is.state is.led_as.end = is.led_as.stands_as.0 in
      let events : List Event = trace_in is.led_as.end.common in
      let one : is.met.numbers ≡ numbers = same_Some is.met.numbers numbers (sym is.met.found ∙ found) in
      let standing : is.standing ≡ t = same_Some is.standing t
      (sym is.met.standing ∙ ap (λ (x : StateNumbers). slice_get r.standings x.standing) one ∙ kept) in
      let list : of.held ≡ held = same_Some of.held held
      (sym of.found ∙ ap (λ (m : ℕ). slice_get r.parts.lists m) is.met.memory ∙ ap (λ (x : StateNumbers). slice_get r.parts.lists x.memory) one ∙ here) in
      let memory : IsMemoryOf r.parts.table.start r.parts.table.states held (memory_in is.led_as.end.common) (history events) =
      subst (λ (lines : List HeldLine). IsMemoryOf r.parts.table.start r.parts.table.states lines (memory_in is.led_as.end.common) (history events)) list of.memory in (
        events,
        subst (λ (x : _). stands x events) standing is.led_as.stands_as.1,
        subst (λ (lines : List (List ℕ)). happens events lines) (full_is (view_of r.parts held) (memory_in is.led_as.end.common) events memory)
            (all is.led_as.end is.led_as.led),
      );
}

pub happened_on_medium : {T : Type 0} (stands : T → List Event → Type 0) (happens : List Event → List (List ℕ) → Type 0) (r : ReachedView T) (lists : List (List HeldLine))
    (memory number standing : ℕ) → IsOnMedium r.parts lists memory number → HasHappenedAt stands happens r r.parts.lists memory standing →
    HasHappenedAt stands happens r lists number standing
happened_on_medium stands happens r lists memory number standing on is held t found kept =
    let list : on_medium on.held ≡ held = same_Some (on_medium on.held) held (sym on.here ∙ found) in
    let was : HasHappened stands happens (view_of r.parts on.held) t = is on.held t on.found kept in
    subst (λ (lines : List HeldLine). HasHappened stands happens (view_of r.parts lines) t) list (
      was.0,
      was.1,
      subst (λ (lines : List (List ℕ)). happens was.0 lines) (image_of_medium r.parts on.held (λ l. 0)) was.2,
    )

-- the state of a number to which a run leads, by its parts
pub led_as_met : {T : Type 0} (stands : T → List Event → Type 0) (allows : List Event → ℕ → Type 0) (r : ReachedView T) (n : ℕ) (s : ProgramState) (t : T) → IsMet r n s t →
    IsLedTo stands allows r n → IsLedAs stands allows r s t
led_as_met stands allows r n s t met is = record {
  end = is.led_as.end;
  led = is.led_as.led;
  stands_as = (
    stands_same r.parts is.state s is.led_as.end (same_harts r n is.state s is.standing t is.met met) (same_memory r n is.state s is.standing t is.met met) is.led_as.stands_as.0,
    subst (λ (x : _). stands x (trace_in is.led_as.end.common)) (sym (same_standing r n is.state s is.standing t is.met met)) is.led_as.stands_as.1,
  );
}

-- states that are led to, as the parts grow, and with one more
pub led_grown : {T : Type 0} (stands : T → List Event → Type 0) (allows : List Event → ℕ → Type 0) (old new : ReachedView T) → HaveGrown old new → new.states ≡ old.states →
    AreLed stands allows old → AreLed stands allows new
led_grown stands allows old new grown same are n there =
    led_to_kept stands allows old new n grown (are n (subst (λ (states : List StateNumbers). n < length states) same there))

pub led_more : {T : Type 0} (stands : T → List Event → Type 0) (allows : List Event → ℕ → Type 0) (old new : ReachedView T) (s : ProgramState) (t : T) → HaveGrown old new →
    ((n : ℕ) → n < length new.states → (n < length old.states) ⊎ IsMet new n s t) → IsLedAs stands allows new s t → AreLed stands allows old → AreLed stands allows new
led_more stands allows old new s t grown only led are n there = elim (only n there) [
  | inl before ↦ led_to_kept stands allows old new n grown (are n before)
  | inr met ↦ record { state = s; standing = t; met = met; led_as = led }
]

-- behind a step more of the run that leads to it, the next state is led to
pub led_next : {T : Type 0} (stands : T → List Event → Type 0) (allows : List Event → ℕ → Type 0) (old new : ReachedView T) (s : ProgramState) (t : T) (end : Config) →
    HaveGrown old new → IsLed allows (started old.parts.table.start.program old.parts.table.start.medium old.harts) end → StandsAs stands new.parts s t end →
    IsLedAs stands allows new s t
led_next stands allows old new s t end grown led stands_as =
    let same : started new.parts.table.start.program new.parts.table.start.medium new.harts ≡ started old.parts.table.start.program old.parts.table.start.medium old.harts =
    ap (λ (start : StartView). started start.program start.medium new.harts) grown.parts.table.start
    ∙ ap (λ (harts : ℕ). started old.parts.table.start.program old.parts.table.start.medium harts) grown.harts in
    record { end = end; led = subst (λ (start : Config). IsLed allows start end) (sym same) led; stands_as = stands_as }

-- what holds whatever state comes
pub if_state : (found : Successor) (claim : Type 0) → claim → IfState found (λ next. claim)
if_state (successors.State next mark) claim is = is
if_state successors.Stopped claim is = tt
if_state successors.TooLong claim is = tt
if_state (successors.Claimed line) claim is = tt
