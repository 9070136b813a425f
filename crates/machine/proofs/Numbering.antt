-- The events of a run are numbered by its hart steps.
use Rattle.std.proofs.Common.{◌≡◌, ℕ, zero, suc, ◌+◌, ◌<◌, ◌⊎◌, List, [], ◌∷◌, ◌++◌, length, take, map, Some, All, Option, None, slice_get, get_or, refl, sym, ap, ◌∙◌, inl, inr, arith, append_assoc, append-nil}
use Rattle.std.proofs.lemmas.List.{length-append, length-map, map-append, take_more}
use Rattle.std.proofs.lemmas.Option.{slice_get-get_or, slice_get_within}
use Rattle.hart.specs.declared.state.HartState.{HartState}
use Rattle.machine.specs.declared.schedule.items.Item.{Item}
use Rattle.machine.specs.declared.schedule.items.Step.{Step}
use Rattle.machine.specs.declared.schedule.items.Step.TheVariants.{Hart, Evict}
use Rattle.machine.specs.Steps.{all_steps}
use Rattle.store_trace.specs.declared.event.Event.{Event}
use Rattle.machine.specs.Recorded.{AreNumbers, FailsToRecord, IsAmong, IsAtStep, IsMadeBy, MayLackRoom, RecordedView, Records, StopsRecording}
use Rattle.machine.proofs.RecordingLeaving.{left_at}
use Rattle.machine.specs.Traced.{StopsTracing, TakesMemory, TracedRun, TracedStep, Traces, events_in, passed, place_of, places_in}
use Rattle.machine.specs.declared.run_trace.traced_event.EventPlace.{EventPlace}
use Rattle.machine.specs.declared.run_trace.traced_event.TracedEvent.{TracedEvent}
use Rattle.machine.proofs.Traces.{has_events, is_run}
use Rattle.machine.specs.Replies.{trace_in}
use Rattle.machine.specs.Evicting.{hart_steps}
use Rattle.machine.specs.Run.{Config, RunsTo}
use Rattle.machine.specs.Refusals.{RefusesNext}
use Rattle.machine.specs.Represents.{IsRunning, IsThere, MachineView, Represents}
use Rattle.machine.specs.declared.schedule.place.Place.{Place}
use Rattle.machine.proofs.Counting.{counted}
use Rattle.machine.specs.declared.fault.RunStop.{RunStop}
use Rattle.machine.specs.Limits.{RefusesStart}
use Rattle.machine.specs.declared.shared_memory.fault.StepFault.TheVariants.{Memory}
use Rattle.machine.proofs.RunParts.{grows, run_joined}

-- a longer run has the same numbers
made_kept : (c : Config) (steps more : List Step) (i n : ℕ) → IsMadeBy c steps i n → IsMadeBy c (steps ++ more) i n
made_kept c steps more i n m = record {
  before = m.before;
  hart = m.hart;
  after = m.after ++ more;
  old = m.old;
  new = m.new;
  split = ap (λ (s : List Step). s ++ more) m.split ∙ append_assoc m.before (Hart m.hart ∷ m.after) more;
  number = m.number;
  runs = m.runs;
  makes = m.makes;
  earlier = m.earlier;
  event = m.event;
}

pub numbers_kept : (c : Config) (steps more : List Step) (numbers : List ℕ) → AreNumbers c steps numbers → AreNumbers c (steps ++ more) numbers
numbers_kept c steps more numbers all i n got = made_kept c steps more i n (all i n got)

-- one number more
pushed_get : (xs : List ℕ) (x i n : ℕ) → slice_get (xs ++ x ∷ []) i ≡ Some n → (slice_get xs i ≡ Some n) ⊎ ((i ≡ length xs) × (n ≡ x))
pushed_get [] x zero n e = inr (refl, cc)
pushed_get [] x (suc i) n e = absurd (cc)
pushed_get (y ∷ xs) x zero n e = inl e
pushed_get (y ∷ xs) x (suc i) n e = elim (pushed_get xs x i n e) [
  | inl before ↦ inl before
  | inr last ↦ inr (ap (λ (k : ℕ). suc k) last.0, last.1)
]

pub numbers_pushed : (c : Config) (steps : List Step) (numbers : List ℕ) (number : ℕ) → AreNumbers c steps numbers
    → IsMadeBy c steps (length numbers) number → AreNumbers c steps (numbers ++ number ∷ [])
numbers_pushed c steps numbers number all made i n got = elim (pushed_get numbers number i n got) [
  | inl before ↦ all i n before
  | inr last ↦ rw (last.0, last.1) made
]

-- and those of the events of one step more
one_more : (c d e : Config) (past : List Step) (step : Step) (numbers : List ℕ) (here : List TracedEvent) → RunsTo c past d
    → length numbers ≡ length (trace_in d.common) → AreNumbers c past numbers → TracedStep (length (hart_steps past)) d step e here
    → AreNumbers c (past ++ step ∷ []) (numbers ++ map (λ (t : TracedEvent). t.step) here)
one_more c d e past step numbers [] runs each are told = rw append-nil (numbers_kept c past (step ∷ []) numbers are)
one_more c d e past (Evict line) numbers (t ∷ []) runs each are told = absurd (told.pcs 0 t (omega arith))
one_more c d e past (Hart h) numbers (t ∷ []) runs each are told =
    let longer = ap (λ (l : List Event). length l) told.events ∙ length-append (trace_in d.common) (t.event ∷ []) in
    numbers_pushed c (past ++ Hart h ∷ []) numbers t.step (numbers_kept c past (Hart h ∷ []) numbers are) (record {
      before = past;
      hart = h;
      after = [];
      old = d;
      new = e;
      split = refl;
      number = told.numbers 0 t (omega arith);
      runs = runs;
      makes = told.steps;
      earlier = sym each;
      event = omega arith;
    })
one_more c d e past step numbers (t ∷ u ∷ more) runs each are told =
    let g = grows d e step told.steps in
    let few = g.few in
    let added = ap (λ (l : List Event). length l) g.trace ∙ length-append (trace_in d.common) g.more in
    let told_all = ap (λ (l : List Event). length l) told.events ∙ length-append (trace_in d.common) (events_in (t ∷ u ∷ more)) in
    absurd (omega arith)

passed_more : (past : List Step) (step : Step) → passed (length (hart_steps past)) step ≡ length (hart_steps (past ++ step ∷ []))
passed_more past (Hart h) = sym (counted past (Hart h ∷ []))
passed_more past (Evict line) = let sum = counted past (Evict line ∷ []) in omega arith

-- a traced run numbers its events
pub traced_numbers : (c d e : Config) (past steps : List Step) (numbers : List ℕ) (traced : List TracedEvent) → RunsTo c past d
    → length numbers ≡ length (trace_in d.common) → AreNumbers c past numbers → TracedRun (length (hart_steps past)) d steps e traced
    → AreNumbers c (past ++ steps) (numbers ++ map (λ (t : TracedEvent). t.step) traced)
traced_numbers c d e past [] numbers traced runs each are told = rw (told.1, append-nil, append-nil) are
traced_numbers c d e past (step ∷ steps) numbers traced runs each are told =
    let here : List ℕ = map (λ (t : TracedEvent). t.step) told.1 in
    let first = one_more c d told.0 past step numbers told.1 runs each are told.4 in
    let longer = ap (λ (l : List Event). length l) told.4.events ∙ length-append (trace_in d.common) (events_in told.1) in
    let sum = length-append numbers here in
    let same = length-map told.1 (λ (t : TracedEvent). t.step) in
    let events = length-map told.1 (λ (t : TracedEvent). t.event) in
    let rest = traced_numbers c told.0 e (past ++ step ∷ []) steps (numbers ++ here) told.2
    (run_joined c d told.0 past (step ∷ []) runs (told.0, told.4.steps, refl)) (omega arith) first (rw passed_more at told.5) in
    rw (told.3, map-append, ← append_assoc numbers here, ← append_assoc past (step ∷ []) steps) rest

among : (m : MachineView) (harts lines : ℕ) (step : Step) → harts ≡ length m.harts → lines ≡ length m.shared.cache.lines
    → IsThere m step → IsAmong harts lines step
among m harts lines (Hart h) e f there = rw e there
among m harts lines (Evict line) e f there = rw f there

pub all_among : (m : MachineView) (harts lines : ℕ) (steps : List Step) → harts ≡ length m.harts → lines ≡ length m.shared.cache.lines
    → All (IsThere m) steps → All (IsAmong harts lines) steps
all_among m harts lines steps e f there k d inside = among m harts lines _ e f (there k d inside)

-- the numbers of places
pub steps_of_places : (traced : List TracedEvent) → map (λ (p : EventPlace). p.step) (places_in traced) ≡ map (λ (t : TracedEvent). t.step) traced
steps_of_places [] = refl
steps_of_places (t ∷ traced) = ap (λ (l : List ℕ). t.step ∷ l) (steps_of_places traced)

pub records_all : (c : Config) (old new : MachineView) (places : List EventPlace) (recorded : RecordedView) → Represents old c
    → trace_in c.common ≡ [] → Traces old new (all_steps recorded.items) places → old.shared.cache.lines ≡ recorded.start
    → old.shared.cache.cache.capacity ≡ recorded.capacity → recorded.trace ≡ new.shared.trace → recorded.harts ≡ new.harts
    → recorded.left ≡ new.shared.cache.lines → recorded.steps ≡ map (λ (p : EventPlace). p.step) places → Records c recorded
records_all c old new places recorded stands none traces lines capacity trace harts left numbers =
    let told = traces.traces c stands in
    let steps : recorded.steps ≡ map (λ (t : TracedEvent). t.step) told.1 =
    numbers ∙ ap (λ (l : List EventPlace). map (λ (p : EventPlace). p.step) l) told.3 ∙ steps_of_places told.1 in
    record {
      end = told.0;
      there = all_among old (length recorded.harts) (length recorded.start) (all_steps recorded.items)
          (ap (λ (l : List HartState). length l) harts ∙ traces.runs.harts) (ap (λ (l : List (List ℕ)). length l) (sym lines))
          traces.runs.there;
      runs = is_run 0 c told.0 (all_steps recorded.items) told.1 told.2;
      harts = harts ∙ told.4.harts;
      trace = trace ∙ told.4.shared.trace;
      numbers = rw steps (traced_numbers c c told.0 [] (all_steps recorded.items) [] told.1 refl
          (sym (ap (λ (l : List Event). length l) none)) (λ i n got. absurd (cc)) told.2);
      left = left_at told.0 new recorded.capacity recorded.left told.4 (traces.runs.capacity ∙ capacity) left;
    }

-- each event has its number
pub each_event : (c : Config) (old new : MachineView) (steps : List Step) (places : List EventPlace) → Represents old c
    → trace_in c.common ≡ [] → Traces old new steps places → length places ≡ length new.shared.trace
each_event c old new steps places stands none traces =
    let told = traces.traces c stands in
    let events : trace_in told.0.common ≡ events_in told.1 =
    has_events 0 c told.0 steps told.1 told.2 ∙ ap (λ (l : List Event). l ++ events_in told.1) none in
    ap (λ (l : List EventPlace). length l) told.3 ∙ length-map told.1 place_of
    ∙ sym (length-map told.1 (λ (t : TracedEvent). t.event)) ∙ ap (λ (l : List Event). length l) (sym (told.4.shared.trace ∙ events))

-- why memory may have been refused for the next step
takes_memory : (c : Config) (machine : MachineView) (next : Option Step) → Represents machine c → TakesMemory machine next → MayLackRoom c next
takes_memory c machine None stands takes = takes
takes_memory c machine (Some (Hart h)) stands takes = (rw (← stands.harts) takes.0, rw (← stands.shared.trace) takes.1)
takes_memory c machine (Some (Evict line)) stands takes = takes

running_is_there : (machine : MachineView) (h : ℕ) (found : Option HartState) → slice_get machine.harts h ≡ found → IsRunning found
    → h < length machine.harts
running_is_there machine h None e running = absurd running
running_is_there machine h (Some s) e running = slice_get_within machine.harts h s e

machine_lacks_room : (c : Config) (machine : MachineView) (next : Option Step) → Represents machine c → RefusesNext machine next Memory
    → MayLackRoom c next
machine_lacks_room c machine None stands refused = refused
machine_lacks_room c machine (Some (Hart h)) stands refused =
    takes_memory c machine (Some (Hart h)) stands
    (running_is_there machine h (slice_get machine.harts h) refl refused.0.running, refused.1)
machine_lacks_room c machine (Some (Evict line)) stands refused = refused.0

pub stops_recording : (c : Config) (lines : List (List ℕ)) (old : MachineView) (items : List Item) (stop : RunStop) → Represents old c
    → old.shared.cache.lines ≡ lines → StopsTracing old items stop → StopsRecording c (length lines) items stop
stops_recording c lines old items stop stands same (inl lacks) =
    let after = lacks.1.runs.represents c stands in record {
      reached = after.0;
      runs = after.1;
      reason = inl lacks.0;
      room = λ memory. inr (takes_memory after.0 lacks.1.new _ after.2 lacks.1.takes);
    }
stops_recording c lines old items stop stands same (inr refused) =
    let after = refused.stops.runs.represents c stands in record {
      reached = after.0;
      runs = after.1;
      reason = inr (record {
        old = old;
        new = refused.new;
        represents = stands;
        lines = ap (λ (l : List (List ℕ)). length l) same;
        few = refused.few;
        stops = refused.stops;
      });
      room = λ memory. inr (machine_lacks_room after.0 refused.new _ after.2 (rw memory at refused.stops.refused));
    }

pub at_step : (old : MachineView) (items : List Item) (stop : RunStop) → StopsTracing old items stop → IsAtStep items stop
at_step old items stop (inl lacks) = inr (lacks.1.item, lacks.1.steps)
at_step old items stop (inr refused) = inr (refused.stops.item, refused.stops.steps)

pub memory_stops : (c : Config) (lines : ℕ) (items : List Item) (stop : RunStop) → stop.place ≡ record { item = 0; steps = 0 } → stop.fault ≡ Memory
    → StopsRecording c lines items stop
memory_stops c lines items stop place memory = record {
  reached = c;
  runs = rw place refl;
  reason = inl memory;
  room = λ _. inl (ap (λ (p : Place). p.item) place, ap (λ (p : Place). p.steps) place);
}

-- there is no machine to begin with
pub fails_before : (c : Config) (harts capacity lines : ℕ) (items : List Item) (stop : RunStop) → stop.place ≡ record { item = 0; steps = 0 }
    → RefusesStart harts capacity stop.fault → FailsToRecord c harts capacity lines items stop
fails_before c harts capacity lines items stop place (inl outside) = inl (outside, place)
fails_before c harts capacity lines items stop place (inr refused) =
    inr (refused.0, memory_stops c lines items stop place refused.1)

pub take_with : (xs : List HartState) (i : ℕ) (x : HartState) → slice_get xs i ≡ Some x → take (i + 1) xs ≡ take i xs ++ x ∷ []
take_with xs i x got =
    let inside : i < length xs = slice_get_within xs i x got in
    let both : Some (get_or xs i x) ≡ Some x = sym (slice_get-get_or xs i x inside) ∙ got in
    let same : get_or xs i x ≡ x = cc in
    take_more xs i x inside ∙ ap (λ (y : HartState). take i xs ++ y ∷ []) same
