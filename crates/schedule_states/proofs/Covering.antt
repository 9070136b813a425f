-- Closed states cover whatever a schedule leads to.
use Rattle.std.proofs.Common.{◌≡◌, inl, inr, ℕ, ◌<◌, List, [], ◌∷◌, Some, length, slice_get, refl, sym, ap, ◌∙◌, subst}
use Rattle.std.proofs.lemmas.Option.{slice_get_within}
use Rattle.bus.proofs.Places.{there_is}
use Rattle.hart.specs.declared.state.HartState.{HartState}
use Rattle.hart.specs.declared.state.Status.{Status}
use Rattle.machine.specs.Run.{Config, RunsTo, StepsTo}
use Rattle.machine.specs.Replies.{memory_in, trace_in}
use Rattle.machine.specs.declared.schedule.items.Step.{Step}
use Rattle.machine.specs.declared.schedule.items.Step.TheVariants.{Hart}
use Rattle.store_trace.specs.History.{history}
use Rattle.store_trace.specs.declared.event.Event.{Event}
use Rattle.schedule_states.proofs.Answered.{text_grown}
use Rattle.schedule_states.proofs.Putting.{memory_of_grown}
use Rattle.schedule_states.proofs.Standing.{stands_or_asks, stopped_itself}
use Rattle.schedule_states.specs.Covering.{Covers, IsClosed, IsTaken, PartsEndWell, ReachedView}
use Rattle.schedule_states.specs.Judging.{HaveEndedWell}
use Rattle.schedule_states.specs.Memories.{IsMemoryOf}
use Rattle.schedule_states.specs.StartLines.{StartView}
use Rattle.schedule_states.specs.States.{AreGrown, IsHartOf, PartsView, StandsFor, text_for}
use Rattle.schedule_states.specs.Turns.{KeepsTo}
use Rattle.schedule_states.specs.declared.program_state.HartPart.{HartPart}
use Rattle.schedule_states.specs.declared.program_state.ProgramState.{ProgramState}

covers_step : {T : Type 0} (stands : T → List Event → Type 0) (allows : List Event → ℕ → Type 0) (ends : Status → Type 0) (r : ReachedView T) (c d : Config) (step : Step) →
    r.parts.claims ≡ [] → IsClosed stands allows ends r → ((h : ℕ) → step ≡ Hart h → allows (trace_in c.common) h) → Covers stands r c → StepsTo c step d → Covers stands r d
covers_step stands allows ends r c d step none closed may covers steps = elim (stands_or_asks r.parts covers.state c d step covers.stands_as.0 steps) [
  | inl still ↦ record {
    state = covers.state;
    standing = covers.standing;
    number = covers.number;
    met = covers.met;
    stands_as = (still.0, subst (λ (events : List Event). stands covers.standing events) (sym still.1) covers.stands_as.1);
  }
  | inr asks ↦
      let there : asks.0 < length c.harts = slice_get_within c.harts asks.0 asks.1.own asks.1.here in
      let few : asks.0 < r.harts = subst (λ (n : ℕ). asks.0 < n) (sym covers.stands_as.0.count ∙ covers.met.count) there in
      let taken : (n : ℕ) × IsTaken stands r covers.standing asks.0 n c d asks.1.request =
      (closed covers.number (slice_get_within r.states covers.number covers.met.numbers covers.met.found)).covered asks.0 covers.state covers.standing c d
      covers.met few covers.stands_as (may asks.0 asks.2) asks.1 in
      subst (λ (e : Config). Covers stands r e) (taken.1.none none) taken.1.at.0
]

-- the schedule behind its first step keeps to the rule too
keeps_on : (allows : List Event → ℕ → Type 0) (c d : Config) (step : Step) (steps : List Step) → StepsTo c step d → KeepsTo allows c (step ∷ steps) →
    KeepsTo allows d steps
keeps_on allows c d step steps first keeps before after h e is runs = keeps (step ∷ before) after h e (ap (λ (rest : List Step). step ∷ rest) is) (d, first, runs)

pub covers_run : {T : Type 0} (stands : T → List Event → Type 0) (allows : List Event → ℕ → Type 0) (ends : Status → Type 0) (r : ReachedView T) (c d : Config)
    (steps : List Step) → r.parts.claims ≡ [] → IsClosed stands allows ends r → Covers stands r c → RunsTo c steps d → KeepsTo allows c steps → Covers stands r d
covers_run stands allows ends r c d [] none closed covers runs keeps = subst (λ (e : Config). Covers stands r e) (sym runs) covers
covers_run stands allows ends r c d (step ∷ steps) none closed covers runs keeps =
    let may : (h : ℕ) → step ≡ Hart h → allows (trace_in c.common) h = λ h is. keeps [] steps h c (ap (λ (s : Step). s ∷ steps) is) refl in
    covers_run stands allows ends r runs.0 d steps none closed (covers_step stands allows ends r c runs.0 step none closed may covers runs.1) runs.2
    (keeps_on allows c runs.0 step steps runs.1 keeps)

-- harts have stopped as they may where those of the state have
pub ended_well : (ends : Status → Type 0) (parts : PartsView) (s : ProgramState) (c : Config) → StandsFor parts s c → PartsEndWell ends s.harts.items →
    HaveEndedWell ends c.harts
ended_well ends parts s c stands well h own here stopped =
    let there : h < length s.harts.items = subst (λ (n : ℕ). h < n) (sym stands.count) (slice_get_within c.harts h own here) in
    let mine : (part : HartPart) × (slice_get s.harts.items h ≡ Some part) = there_is s.harts.items h there in
    let same : mine.0.state ≡ own = stopped_itself parts c.common h mine.0 own (stands.harts h mine.0 own mine.1 here) stopped in
    subst (λ (t : HartState). ends t.status) same
    (well h mine.0 mine.1 (λ running. stopped (sym (ap (λ (t : HartState). t.status) same) ∙ running)))

-- a state stands for the same as the parts grow, and so does one with the same parts
pub stands_grown : (old new : PartsView) (s : ProgramState) (c : Config) → AreGrown old new → StandsFor old s c → StandsFor new s c
stands_grown old new s c grown stands = record {
  count = stands.count;
  few = stands.few;
  harts = λ h part own mine here.
      let of : IsHartOf old c.common h part own = stands.harts h part own mine here in record {
        text = text_grown old new part.text (text_for c.common h) grown of.text;
        ahead = of.ahead;
        ready = of.ready;
        reserved = of.reserved;
      };
  held = stands.held;
  found = grown.lists s.memory stands.held stands.found;
  memory = subst (λ (start : StartView). IsMemoryOf start new.table.states stands.held (memory_in c.common) (history (trace_in c.common))) (sym grown.table.start)
      (memory_of_grown old.table.start old.table.states new.table.states stands.held (memory_in c.common) (history (trace_in c.common)) grown.table.grows stands.memory);
}

pub stands_same : (parts : PartsView) (s t : ProgramState) (c : Config) → t.harts.items ≡ s.harts.items → t.memory ≡ s.memory → StandsFor parts s c → StandsFor parts t c
stands_same parts s t c harts memory stands = record {
  count = ap (λ (xs : List HartPart). length xs) harts ∙ stands.count;
  few = stands.few;
  harts = λ h part own mine here. stands.harts h part own (subst (λ (xs : List HartPart). slice_get xs h ≡ Some part) harts mine) here;
  held = stands.held;
  found = ap (λ (n : ℕ). slice_get parts.lists n) memory ∙ stands.found;
  memory = stands.memory;
}
