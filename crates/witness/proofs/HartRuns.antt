-- What hart steps add to a trace they add to the persistence steps of the history.
use Rattle.std.proofs.Common.{◌≡◌, ℕ, List, [], ◌∷◌, ◌++◌, Option, Some, None, slice_get, refl, sym, ap, ◌∙◌, append_assoc}
use Rattle.std.proofs.lemmas.List.{append-nil}
use Rattle.store_trace.specs.declared.crash_model.step.PersistenceStep.{PersistenceStep}
use Rattle.hart.specs.declared.state.HartState.{HartState}
use Rattle.hart.specs.declared.state.Status.{Status}
use Rattle.hart.specs.declared.state.Status.TheVariants.{Running, Exited, Trapped}
use Rattle.hart.specs.declared.need.Need.{Need}
use Rattle.hart.specs.declared.need.Need.TheVariants.{Local, Ask, Stop}
use Rattle.machine.specs.declared.schedule.items.Step.{Step}
use Rattle.machine.specs.declared.schedule.items.Step.TheVariants.{Hart, Evict}
use Rattle.store_trace.specs.History.{history}
use Rattle.store_trace.specs.declared.event.Event.{Event}
use Rattle.machine.specs.Persisted.{persisted}
use Rattle.machine.specs.Replies.{events_of, reply_after, trace_in}
use Rattle.machine.specs.declared.shared_memory.history.Entry.{Entry}
use Rattle.machine.proofs.SharedMemoryStepping.{history_more}
use Rattle.machine.specs.Evicting.{hart_steps}
use Rattle.machine.specs.Run.{Config, HartSteps, HartStepsIfThere, Meets, RunsTo, StepsTo, fetched_by}

-- d has some events more than c, and the persistence steps of these events more
pub record Adds (c d : Config) : Type 0 where
  pub more : List Event
  pub trace : trace_in d.common ≡ trace_in c.common ++ more
  pub steps : persisted d.common.history ≡ history more ++ persisted c.common.history

adds_none : (c d : Config) → trace_in d.common ≡ trace_in c.common → d.common.history ≡ c.common.history → Adds c d
adds_none c d trace same = record {
  more = [];
  trace = trace ∙ sym (append-nil (trace_in c.common));
  steps = ap (λ (entries : List Entry). persisted entries) same;
}

meets_adds : (c d : Config) (h : ℕ) (s : HartState) (word : Option ℕ) (need : Need) → Meets c h s word need d → Adds c d
meets_adds c d h s word (Local after) m = adds_none c d (rw m refl) (rw m refl)
meets_adds c d h s word (Stop trap) m = adds_none c d (rw m refl) (rw m refl)
meets_adds c d h s word (Ask request) m = record {
  more = events_of h request (reply_after c.common h request);
  trace = rw m.2 refl;
  steps = rw m.2 refl;
}

hart_adds : (c d : Config) (h : ℕ) (s : HartState) (status : Status) → HartSteps c h s status d → Adds c d
hart_adds c d h s Running x = meets_adds c d h s (fetched_by c h s.pc) x.0 x.2
hart_adds c d h s (Exited code) x = adds_none c d (rw x refl) (rw x refl)
hart_adds c d h s (Trapped trap) x = adds_none c d (rw x refl) (rw x refl)

there_adds : (c d : Config) (h : ℕ) (o : Option HartState) → HartStepsIfThere c h o d → Adds c d
there_adds c d h None x = absurd x
there_adds c d h (Some s) x = hart_adds c d h s s.status x

pub step_adds : (c d : Config) (h : ℕ) → StepsTo c (Hart h) d → Adds c d
step_adds c d h x = there_adds c d h (slice_get c.harts h) x

adds_both : (c d e : Config) → Adds c d → Adds d e → Adds c e
adds_both c d e a b = record {
  more = a.more ++ b.more;
  trace = b.trace ∙ ap (λ (t : List Event). t ++ b.more) a.trace ∙ append_assoc (trace_in c.common) a.more b.more;
  steps = b.steps ∙ ap (λ (p : List PersistenceStep). history b.more ++ p) a.steps
      ∙ sym (append_assoc (history b.more) (history a.more) (persisted c.common.history))
      ∙ ap (λ (p : List PersistenceStep). p ++ persisted c.common.history) (sym (history_more a.more b.more));
}

-- of a run of hart steps alone
pub run_adds : (c d : Config) (steps : List Step) → RunsTo c (hart_steps steps) d → Adds c d
run_adds c d [] x = adds_none c d (rw x refl) (rw x refl)
run_adds c d (Hart h ∷ steps) x = adds_both c x.0 d (step_adds c x.0 h x.1) (run_adds x.0 d steps x.2)
run_adds c d (Evict line ∷ steps) x = run_adds c d steps x

-- a run leaves the starting lines as they are
meets_start : (c d : Config) (h : ℕ) (s : HartState) (word : Option ℕ) (need : Need) → Meets c h s word need d
    → d.common.start ≡ c.common.start
meets_start c d h s word (Local after) m = rw m refl
meets_start c d h s word (Stop trap) m = rw m refl
meets_start c d h s word (Ask request) m = rw m.2 refl

hart_start : (c d : Config) (h : ℕ) (s : HartState) (status : Status) → HartSteps c h s status d → d.common.start ≡ c.common.start
hart_start c d h s Running x = meets_start c d h s (fetched_by c h s.pc) x.0 x.2
hart_start c d h s (Exited code) x = rw x refl
hart_start c d h s (Trapped trap) x = rw x refl

there_start : (c d : Config) (h : ℕ) (o : Option HartState) → HartStepsIfThere c h o d → d.common.start ≡ c.common.start
there_start c d h None x = absurd x
there_start c d h (Some s) x = hart_start c d h s s.status x

pub run_start : (c d : Config) (steps : List Step) → RunsTo c steps d → d.common.start ≡ c.common.start
run_start c d [] x = rw x refl
run_start c d (Hart h ∷ steps) x = run_start x.0 d steps x.2 ∙ there_start c x.0 h (slice_get c.harts h) x.1
run_start c d (Evict line ∷ steps) x = run_start x.0 d steps x.2 ∙ rw x.1 refl
