-- Runs by the needed evictions of a cut leave the cut, and none of these evictions can be left out.
use Rattle.std.proofs.Common.{◌≡◌, ◌⊎◌, ℕ, ◌==◌, List, [], ◌∷◌, ◌++◌, true, false, Contains, map, take, refl, sym, ap, subst, ◌∙◌, inl, inr, eq-eqb, arith}
use Rattle.std.proofs.lemmas.Bool.{cases_Bool}
use Rattle.std.proofs.lemmas.Bool.Decides.{nat_tests}
use Rattle.std.proofs.lemmas.List.Elements.{Contains-append_right}
use Rattle.store_trace.specs.Cut.{IsCut, number_in}
use Rattle.store_trace.specs.WrittenBack.{written_back}
use Rattle.store_trace.specs.History.{at_moment, history}
use Rattle.store_trace.specs.declared.event.Event.{Event}
use Rattle.store_trace.specs.declared.crash_model.step.PersistenceStep.TheVariants as step
use Rattle.machine.specs.declared.schedule.items.Step.{Step}
use Rattle.machine.specs.declared.schedule.items.Step.TheVariants.{Hart, Evict}
use Rattle.machine.specs.Persisted.{persisted}
use Rattle.machine.specs.Replies.{trace_in}
use Rattle.machine.specs.declared.shared_memory.history.Entry.{Entry}
use Rattle.machine.specs.Evicting.{hart_steps}
use Rattle.machine.specs.Recorded.{RecordedView}
use Rattle.machine.specs.Run.{Config, RunsTo, started}
use Rattle.machine.proofs.Determined.{runs_once}
use Rattle.machine.proofs.Evicting.{alike_itself as same_config, runs_alike, trace_alike}
use Rattle.machine.proofs.SharedMemoryStepping.{history_evicts_nothing, history_more}
use Rattle.witness.specs.Explains.{Leaves, steps_by}
use Rattle.witness.specs.Least.{EvictsNoOthers, ExplainsLeast, LeavesNumbers}
use Rattle.witness.specs.Needed.{needed, needed_entry}
use Rattle.witness.specs.Walking.{Follows, IsStart}
use Rattle.witness.proofs.HartRuns.{step_adds}
use Rattle.witness.proofs.Leaving.{leaves_from}
use Rattle.witness.proofs.Needed.{needed_leaves, needed_numbers}
use Rattle.witness.proofs.OneLine.{AreAlike, alike_on, alike_same, alike_then, other_evicted}

-- a list of steps that evicts the line, or none of whose evictions is of it
abbrev IsUnevicted : ℕ → List Step → Type 0
IsUnevicted l [] = Unit {0}
IsUnevicted l (Hart h ∷ steps) = IsUnevicted l steps
IsUnevicted l (Evict m ∷ steps) = ((m == l) ≡ false) × IsUnevicted l steps

after_one : (x : Step) (l : ℕ) (steps : List Step) → Contains steps (Evict l) → Contains (x ∷ steps) (Evict l)
after_one x l steps there = Contains-append_right (x ∷ []) steps (Evict l) there

evicted_or_not : (l : ℕ) (steps : List Step) → Contains steps (Evict l) ⊎ IsUnevicted l steps
evicted_or_not l [] = inr tt
evicted_or_not l (Hart h ∷ steps) = elim (evicted_or_not l steps) [
  | inl there ↦ inl (after_one (Hart h) l steps there)
  | inr none ↦ inr none
]
evicted_or_not l (Evict m ∷ steps) = elim (cases_Bool (m == l)) [
  | inl mine ↦ let is : m ≡ l = grind (arith, nat_tests, mine) in inl (0, omega arith, ap (λ (n : ℕ). Evict n) is)
  | inr other ↦ elim (evicted_or_not l steps) [
    | inl there ↦ inl (after_one (Evict m) l steps there)
    | inr none ↦ inr (other, none)
  ]
]

-- a run that doesn't evict a line leaves it as the events alone do
pub unevicted_run : (c d : Config) (l : ℕ) (steps : List Step) → IsUnevicted l steps → RunsTo c steps d
    → AreAlike l (persisted c.common.history) (history (trace_in c.common))
    → AreAlike l (persisted d.common.history) (history (trace_in d.common))
unevicted_run c d l [] none run a = rw run a
unevicted_run c d l (Hart h ∷ steps) none run a =
    let adds = step_adds c run.0 h run.1 in
    let events : history (trace_in run.0.common) ≡ history adds.more ++ history (trace_in c.common) =
    ap (λ (t : List Event). history t) adds.trace ∙ history_more (trace_in c.common) adds.more in
    unevicted_run run.0 d l steps none run.2
    (alike_then l _ (history adds.more ++ persisted c.common.history) _ (alike_same l _ _ adds.steps)
    (alike_then l _ (history adds.more ++ history (trace_in c.common)) _
    (alike_on l (history adds.more) (persisted c.common.history) (history (trace_in c.common)) a) (alike_same l _ _ (sym events))))
unevicted_run c d l (Evict m ∷ steps) none run a =
    let made : persisted run.0.common.history ≡ step.Evict m ∷ persisted c.common.history =
    ap (λ (x : Config). persisted x.common.history) run.1 in
    let events : history (trace_in run.0.common) ≡ history (trace_in c.common) =
    ap (λ (x : Config). history (trace_in x.common)) run.1 in
    unevicted_run run.0 d l steps none.1 run.2
    (alike_then l _ (step.Evict m ∷ persisted c.common.history) _ (alike_same l _ _ made)
    (alike_then l _ (persisted c.common.history) _ (other_evicted l m (persisted c.common.history) none.0)
    (alike_then l _ (history (trace_in c.common)) _ a (alike_same l _ _ (sym events)))))

-- steps with the same hart steps make the same events
same_events : (c d e : Config) (steps others : List Step) → hart_steps others ≡ hart_steps steps → RunsTo c steps d → RunsTo c others e
    → trace_in e.common ≡ trace_in d.common
same_events c d e steps others same run other =
    let mine = runs_alike c c d steps others (same_config c) (sym same) run in
    let there : e ≡ mine.0 = runs_once c others e mine.0 other mine.1 in
    ap (λ (x : Config). trace_in x.common) there ∙ sym (trace_alike d mine.0 mine.2)

none_left_out : (c : Config) (recorded : RecordedView) (moment : ℕ) (cut : List (ℕ × ℕ)) (steps others : List Step) → IsStart c
    → Leaves c recorded moment cut (needed cut (at_moment recorded.trace moment)) steps → hart_steps others ≡ hart_steps steps
    → LeavesNumbers c cut others → EvictsNoOthers steps others
none_left_out c recorded moment cut steps others start leaves same other = λ before after line split.
    elim (evicted_or_not line others) [
      | inl there ↦ there
      | inr none ↦
          let first : persisted c.common.history ≡ history (trace_in c.common) =
          ap (λ (entries : List Entry). persisted entries) start.history ∙ sym (ap (λ (t : List Event). history t) start.trace) in
          let stands = unevicted_run c other.end line others none other.runs (alike_same line _ _ first) in
          let events : trace_in other.end.common ≡ take moment recorded.trace =
          same_events c leaves.end other.end steps others same leaves.runs other.runs ∙ leaves.trace in
          let number : written_back line (at_moment recorded.trace moment) ≡ number_in cut line =
          ap (λ (t : List Event). written_back line (history t)) (sym events) ∙ sym stands.written ∙ other.written line in
          let is : (written_back line (at_moment recorded.trace moment) == number_in cut line) ≡ true =
          eq-eqb (written_back line (at_moment recorded.trace moment)) (number_in cut line) number in
          let needless : needed cut (at_moment recorded.trace moment) line ≡ 0 = rw is refl in
          let none_made = (leaves.evictions before after line split).number_is ∙ needless in
          absurd (omega (arith, none_made))
    ]

pub explains_least : (recorded : RecordedView) (moment : ℕ) (cut entries : List (ℕ × ℕ)) (steps : List Step)
    → IsCut (at_moment recorded.trace moment) cut → entries ≡ map (needed_entry (at_moment recorded.trace moment)) cut
    → Follows recorded (number_in entries) moment (steps_by recorded.steps moment) steps → ExplainsLeast recorded moment cut steps
explains_least recorded moment cut entries steps is entries_are follows =
    let numbers : number_in entries ≡ needed cut (at_moment recorded.trace moment) =
    ap (λ (es : List (ℕ × ℕ)). number_in es) entries_are ∙ needed_numbers (at_moment recorded.trace moment) cut in
    let by : Follows recorded (needed cut (at_moment recorded.trace moment)) moment (steps_by recorded.steps moment) steps =
    subst (λ (k : ℕ → ℕ). Follows recorded k moment (steps_by recorded.steps moment) steps) numbers follows in
    let leaves = needed_leaves (at_moment recorded.trace moment) cut (history_evicts_nothing (take moment recorded.trace)) is in
    record {
      is_cut = is;
      hart_steps_are = follows.hart_steps_are;
      leaves = λ program lines harts r. leaves_from (started program lines harts) recorded moment cut
          (needed cut (at_moment recorded.trace moment)) steps leaves r (record { history = refl; trace = refl }) by;
      least = λ program lines harts r others same other.
          none_left_out (started program lines harts) recorded moment cut steps others (record { history = refl; trace = refl })
          (leaves_from (started program lines harts) recorded moment cut (needed cut (at_moment recorded.trace moment)) steps
          leaves r (record { history = refl; trace = refl }) by) same other;
    }
