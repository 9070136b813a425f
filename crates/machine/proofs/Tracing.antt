-- A tracer's steps, one after another.
use Rattle.std.proofs.Common.{◌≡◌, ◌≢◌, ℕ, ◌+◌, ◌<◌, ◌≤◌, List, [], ◌∷◌, ◌++◌, length, replicate, Some, true, slice_get, refl, sym, ap, ◌∙◌, inl, inr, arith, subst, ◌^◌, append-nil}
use Rattle.std.proofs.lemmas.List.{length-append}
use Rattle.std.proofs.lemmas.List.Elements.{All-nil, All-cons}
use Rattle.hart.specs.declared.state.HartState.{HartState}
use Rattle.machine.specs.Replies.{trace_in}
use Rattle.machine.specs.Run.{Config, RunsTo, StepsTo}
use Rattle.machine.specs.Represents.{MachineView, Runs, RunsExactly, Represents}
use Rattle.machine.specs.Stops.{is_stopped}
use Rattle.machine.specs.Evicting.{hart_steps}
use Rattle.machine.proofs.RunParts.{grows, run_grows}
use Rattle.machine.proofs.Counting.{all_counted, counted, items_counted}
use Rattle.machine.proofs.Steps.{stopped_exactly, stopped_runs, stops_at}
use Rattle.machine.specs.Traced.{IsPcBefore, StopsTracing, TracedRun, TracedStep, Traces, passed, places_in}
use Rattle.machine.specs.TracerLaws.{passed_is}
use Rattle.machine.specs.Tracers.{Continues, IsHeld, Makes, Tells, TracerView}
use Rattle.machine.specs.declared.run_trace.traced_event.EventPlace.{EventPlace}
use Rattle.machine.specs.declared.run_trace.traced_event.TracedEvent.{TracedEvent}
use Rattle.machine.specs.declared.schedule.items.Item.{Item}
use Rattle.machine.specs.declared.schedule.items.Step.{Step}
use Rattle.machine.specs.declared.schedule.items.Step.TheVariants.{Hart, Evict}
use Rattle.machine.proofs.Places.{after_start, step_there}
use Rattle.machine.specs.Grammar.{hart_steps as count_of_hart_steps}
use Rattle.machine.specs.Places.{steps_after}
use Rattle.machine.specs.Steps.{all_steps}
use Rattle.machine.specs.Walks.{Comes, HaltsAt}
use Rattle.machine.specs.declared.schedule.place.Place.{Place}
use Rattle.machine.specs.declared.shared_memory.fault.StepFault.{StepFault}
use Rattle.store_trace.specs.declared.event.Event.{Event}

-- a run that adds nothing to the trace makes no event
is_empty : (xs : List Event) → length xs ≤ 0 → xs ≡ []
is_empty [] few = refl
is_empty (x ∷ xs) few = absurd (omega arith)

silent_step : (n : ℕ) (c d : Config) (step : Step) → StepsTo c step d → length (trace_in d.common) ≤ length (trace_in c.common) → TracedStep n c step d []
silent_step n c d step moves same =
    let g = grows c d step moves in
    let all = ap (λ (t : List Event). length t) g.trace in
    let sum = length-append (trace_in c.common) g.more in
    let none : g.more ≡ [] = is_empty g.more (omega arith) in
    record {
      steps = moves;
      events = g.trace ∙ ap (λ (t : List Event). trace_in c.common ++ t) none;
      numbers = All-nil (λ (t : TracedEvent). t.step ≡ passed n step);
      pcs = All-nil (λ (t : TracedEvent). IsPcBefore c step t.pc);
    }

silent_run : (n : ℕ) (c d : Config) (steps : List Step) → RunsTo c steps d → length (trace_in d.common) ≤ length (trace_in c.common) → TracedRun n c steps d []
silent_run n c d [] run same = (run, refl)
silent_run n c d (step ∷ steps) run same =
    let g = grows c run.0 step run.1 in
    let first = ap (λ (t : List Event). length t) g.trace ∙ length-append (trace_in c.common) g.more in
    let rest = run_grows run.0 d steps run.2 in
    let last = ap (λ (t : List Event). length t) rest.1 ∙ length-append (trace_in run.0.common) rest.0 in
    (run.0, [], [], refl, silent_step n c run.0 step run.1 (omega arith), silent_run (passed n step) run.0 d steps run.2 (omega arith))

pub tells_none : (old new : TracerView) (steps : List Step) → Runs old.machine new.machine steps
    → length new.machine.shared.trace ≤ length old.machine.shared.trace → new.places ≡ old.places
    → (c : Config) → Represents old.machine c → Tells old new steps c
tells_none old new steps runs same places c stands =
    let after = runs.represents c stands in
    let before_is = ap (λ (t : List Event). length t) stands.shared.trace in
    let after_is = ap (λ (t : List Event). length t) after.2.shared.trace in
    record {
      end = after.0;
      more = [];
      run = silent_run old.made c after.0 steps after.1 (omega arith);
      represents = after.2;
      places = places ∙ sym (append-nil old.places);
    }

-- a hart step with an event
one_step : (c d : Config) (step : Step) → RunsTo c (step ∷ []) d → StepsTo c step d
one_step c d step run = rw run.2 run.1

one_more : (xs ys more : List Event) → ys ≡ xs ++ more → length more ≤ 1 → length ys ≢ length xs → (x : Event) × (more ≡ x ∷ [])
one_more xs ys [] e few longer =
    let all = ap (λ (t : List Event). length t) e ∙ length-append xs [] in
    absurd (longer (omega arith))
one_more xs ys (x ∷ []) e few longer = (x, refl)
one_more xs ys (x ∷ y ∷ more) e few longer = absurd (omega arith)

tells_event : (old new : TracerView) (h : ℕ) (s : HartState) (p : EventPlace) → Runs old.machine new.machine (Hart h ∷ [])
    → slice_get old.machine.harts h ≡ Some s → p.pc ≡ s.pc → p.step ≡ old.made + 1
    → length new.machine.shared.trace ≢ length old.machine.shared.trace → new.places ≡ old.places ++ p ∷ []
    → (c : Config) → Represents old.machine c → Tells old new (Hart h ∷ []) c
tells_event old new h s p runs there pc number longer places c stands =
    let after = runs.represents c stands in
    let moves = one_step c after.0 (Hart h) after.1 in
    let g = grows c after.0 (Hart h) moves in
    let other : length (trace_in after.0.common) ≢ length (trace_in c.common) = rw (stands.shared.trace, after.2.shared.trace) at longer in
    let more = one_more (trace_in c.common) (trace_in after.0.common) g.more g.trace g.few other in
    let hart : slice_get c.harts h ≡ Some s = rw stands.harts at there in
    let t : TracedEvent = record { step = p.step; pc = p.pc; event = more.0 } in
    record {
      end = after.0;
      more = t ∷ [];
      run = (
        after.0,
        t ∷ [],
        [],
        refl,
        record {
          steps = moves;
          events = g.trace ∙ ap (λ (m : List Event). trace_in c.common ++ m) more.1;
          numbers = All-cons (λ (u : TracedEvent). u.step ≡ old.made + 1) t [] number (All-nil (λ (u : TracedEvent). u.step ≡ old.made + 1));
          pcs = All-cons (λ (u : TracedEvent). IsPcBefore c (Hart h) u.pc) t [] (s, hart, pc) (All-nil (λ (u : TracedEvent). IsPcBefore c (Hart h) u.pc));
        },
        (refl, refl),
      );
      represents = after.2;
      places = places;
    }

pub continues_event : (old new : TracerView) (h : ℕ) (s : HartState) (p : EventPlace) → Runs old.machine new.machine (Hart h ∷ [])
    → RunsExactly old.machine new.machine (Hart h ∷ []) → slice_get old.machine.harts h ≡ Some s → p.pc ≡ s.pc → p.step ≡ old.made + 1 → new.made ≡ old.made + 1
    → length new.machine.shared.trace ≢ length old.machine.shared.trace → new.places ≡ old.places ++ p ∷ []
    → Continues old new (Hart h ∷ [])
continues_event old new h s p runs exact there pc number made longer places = record {
  runs = runs;
  exact = exact;
  made = made;
  tells = tells_event old new h s p runs there pc number longer places;
}

pub continues_silent : (old new : TracerView) (h : ℕ) → Runs old.machine new.machine (Hart h ∷ [])
    → RunsExactly old.machine new.machine (Hart h ∷ []) → new.made ≡ old.made + 1 → length new.machine.shared.trace ≤ length old.machine.shared.trace → new.places ≡ old.places → Continues old new (Hart h ∷ [])
continues_silent old new h runs exact made same places = record {
  runs = runs;
  exact = exact;
  made = made;
  tells = tells_none old new (Hart h ∷ []) runs same places;
}

-- the steps of a hart that stopped
pub continues_stopped : (old new : TracerView) (h n : ℕ) → is_stopped (slice_get old.machine.harts h) ≡ true → new.machine ≡ old.machine
    → new.made ≡ old.made + n → new.places ≡ old.places → Continues old new (replicate n (Hart h))
continues_stopped old new h n stopped e made places =
    let runs : Runs old.machine new.machine (replicate n (Hart h)) = rw e (stopped_runs old.machine h n stopped) in
    let same : length new.machine.shared.trace ≡ length old.machine.shared.trace = ap (λ (m : MachineView). length m.shared.trace) e in
    record {
      runs = runs;
      exact = rw e (stopped_exactly old.machine h n stopped);
      made = rw (passed_is, all_counted) made;
      tells = tells_none old new (replicate n (Hart h)) runs (omega arith) places;
    }

-- an eviction
eviction_is_silent : (c d : Config) (line : ℕ) → StepsTo c (Evict line) d → length (trace_in d.common) ≡ length (trace_in c.common)
eviction_is_silent c d line step = rw step refl

tells_eviction : (old new : TracerView) (line : ℕ) → Runs old.machine new.machine (Evict line ∷ []) → new.places ≡ old.places
    → (c : Config) → Represents old.machine c → Tells old new (Evict line ∷ []) c
tells_eviction old new line runs places c stands =
    let after = runs.represents c stands in
    let same = eviction_is_silent c after.0 line (one_step c after.0 (Evict line) after.1) in
    record {
      end = after.0;
      more = [];
      run = silent_run old.made c after.0 (Evict line ∷ []) after.1 (omega arith);
      represents = after.2;
      places = places ∙ sym (append-nil old.places);
    }

pub continues_evicted : (old new : TracerView) (line : ℕ) → Runs old.machine new.machine (Evict line ∷ [])
    → RunsExactly old.machine new.machine (Evict line ∷ []) → new.made ≡ old.made → new.places ≡ old.places → Continues old new (Evict line ∷ [])
continues_evicted old new line runs exact made places = record { runs = runs; exact = exact; made = made; tells = tells_eviction old new line runs places }

-- all that a tracer tells which has told nothing before
pub traces_all : (old new : TracerView) (steps : List Step) → old.made ≡ 0 → old.places ≡ [] → Continues old new steps
    → length new.machine.shared.trace ≤ 65536 → Traces old.machine new.machine steps new.places
traces_all old new steps made none continues few = record {
  runs = continues.runs;
  exact = continues.exact;
  few = few;
  traces = λ c stands.
      let told = continues.tells c stands in
      let whole : new.places ≡ places_in told.more = told.places ∙ ap (λ (t : List EventPlace). t ++ places_in told.more) none in
      (told.end, told.more, rw made at told.run, whole, told.represents);
}

-- what a walk from the start makes of it
pub makes_all : (old new : TracerView) (items : List Item) → old.made ≡ 0 → count_of_hart_steps items < 2 ^ 32
    → Makes old (steps_after items (record { item = 0; steps = 0 })) new → Continues old new (all_steps items)
makes_all old new items none few makes =
    let all = items_counted items in
    let sum = passed_is old.made (all_steps items) in
    subst (λ (l : List Step). Makes old l new) (after_start items 0) makes (omega arith)

-- and where it halts
makes_first : (old middle : TracerView) (items : List Item) (place : Place) (come : Comes Makes old middle items (record { item = 0; steps = 0 }) place)
    → old.made ≡ 0 → count_of_hart_steps items < 2 ^ 32 → Continues old middle come.steps
makes_first old middle items place come none few =
    let all = items_counted items in
    let parts = ap (λ (l : List Step). length (hart_steps l)) (sym (after_start items 0) ∙ come.leads.after) in
    let both = counted come.steps (steps_after items place) in
    let sum = passed_is old.made come.steps in
    come.made (omega arith)

pub stops_tracing : (old new : TracerView) (items : List Item) (place : Place) (fault : StepFault) → old.made ≡ 0 → count_of_hart_steps items < 2 ^ 32
    → HaltsAt Makes IsHeld old new items (record { item = 0; steps = 0 }) place fault → length new.machine.shared.trace ≤ 65536
    → StopsTracing old.machine items (record { place = place; fault = fault })
stops_tracing old new items place fault none small h few =
    let runs = (makes_first old h.middle items place h.before none small).runs in
    elim h.halted [
      | inl memory ↦
          let there = step_there items place h.step h.here in
          inl (
            memory.0,
            record {
              new = h.middle.machine;
              item = there.0;
              steps = there.1;
              runs = rw h.before.leads.before runs;
              takes = rw h.here memory.1;
            },
          )
      | inr refused ↦ inr (record {
        new = new.machine;
        few = few;
        stops = stops_at old.machine new.machine items place fault (record {
          middle = h.middle.machine;
          step = h.step;
          before = record { steps = h.before.steps; leads = h.before.leads; made = runs };
          here = h.here;
          halted = refused;
        });
      })
    ]
