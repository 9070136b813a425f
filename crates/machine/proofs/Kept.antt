-- What is kept of a run that a machine has made from its setup.
use Rattle.std.proofs.Common.{◌∷◌, [], ◌≡◌, ℕ, ◌^◌, ◌<◌, List, length, map, refl, ap, sym, ◌∙◌}
use Rattle.std.proofs.lemmas.List.FromFn.{length-map-range_with_len}
use Rattle.hart.specs.Effect.{start}
use Rattle.hart.specs.declared.state.HartState.{HartState}
use Rattle.machine.proofs.Leaving.{left_by}
use Rattle.machine.specs.Represents.{MachineView, Represents, RepresentsExactly}
use Rattle.machine.proofs.Numbering.{all_among, records_all}
use Rattle.machine.specs.Recorded.{RecordedView, Records}
use Rattle.machine.specs.RunValues.{IsRun, IsWithin, RunView, run_of, start_of}
use Rattle.machine.specs.declared.recording.setup.Setup.{Setup}
use Rattle.machine.proofs.Traces.{has_events}
use Rattle.machine.specs.Traced.{Traces, events_in, places_in, with_places}
use Rattle.machine.specs.declared.run_trace.traced_event.EventPlace.{EventPlace}
use Rattle.machine.specs.declared.run_trace.traced_event.TracedEvent.{TracedEvent}
use Rattle.machine.specs.Grammar.{hart_steps}
use Rattle.machine.specs.Steps.{all_steps}
use Rattle.machine.specs.declared.schedule.items.Item.{Item}

-- what is kept of a machine after its run
abbrev pub record_of : Setup → List Item → MachineView → List EventPlace → RecordedView
record_of s items new places = record {
  start = s.medium;
  capacity = s.capacity;
  items = items;
  trace = new.shared.trace;
  harts = new.harts;
  left = new.shared.cache.lines;
  steps = map (λ (place : EventPlace). place.step) places;
}

-- a machine that goes on from the start of a setup, with the place of each event
pub record Makes (s : Setup) (items : List Item) (old new : MachineView) (places : List EventPlace) : Type 0 where
  pub within : IsWithin s
  pub few_steps : hart_steps items < 2 ^ 32
  pub stands : Represents old (start_of s)
  pub exact : RepresentsExactly old (start_of s)
  pub lines : old.shared.cache.lines ≡ s.medium
  pub capacity : old.shared.cache.cache.capacity ≡ s.capacity
  pub traces : Traces old new (all_steps items) places

-- it has as many harts as the setup says
pub harts_kept : (s : Setup) (items : List Item) (old new : MachineView) (places : List EventPlace) → Makes s items old new places
    → length new.harts ≡ s.harts
harts_kept s items old new places made =
    made.traces.runs.harts ∙ ap (λ (l : List HartState). length l) made.stands.harts ∙ length-map-range_with_len start 0 s.harts

pub setup_kept : (s : Setup) (items : List Item) (old new : MachineView) (places : List EventPlace) (traced : List TracedEvent) → Makes s items old new places
    → (run_of s.program (record_of s items new places) traced).setup ≡ s
setup_kept s items old new places traced made = rw (harts_kept s items old new places made) refl

-- events by their places are those that were told
placed : (traced : List TracedEvent) → with_places (places_in traced) (events_in traced) ≡ traced
placed [] = refl
placed (t ∷ traced) = ap (λ (l : List TracedEvent). t ∷ l) (placed traced)

pub is_run : (s : Setup) (items : List Item) (old new : MachineView) (places : List EventPlace) → Makes s items old new places
    → IsRun (run_of s.program (record_of s items new places) (with_places places new.shared.trace))
is_run s items old new places made =
    let told = made.traces.traces (start_of s) made.stands in
    let count = harts_kept s items old new places made in
    let events : new.shared.trace ≡ events_in told.1 = told.4.shared.trace ∙ has_events 0 (start_of s) told.0 (all_steps items) told.1 told.2 in
    let same : with_places places new.shared.trace ≡ told.1 = rw (told.3, events) (placed told.1) in
    rw count (record {
      within = made.within;
      few_steps = made.few_steps;
      there = all_among old s.harts (length s.medium) (all_steps items)
          (sym (ap (λ (l : List HartState). length l) made.stands.harts ∙ length-map-range_with_len start 0 s.harts))
          (ap (λ (l : List (List ℕ)). length l) (sym made.lines)) made.traces.runs.there;
      end = told.0;
      traced = rw same told.2;
      events = told.4.shared.trace;
      few = made.traces.few;
      harts = told.4.harts;
      left = left_by (start_of s) (all_steps items) old new s.capacity new.shared.cache.lines made.exact made.traces.exact
          (made.traces.runs.capacity ∙ made.capacity) refl;
    })

pub records : (s : Setup) (items : List Item) (old new : MachineView) (places : List EventPlace) (traced : List TracedEvent) → Makes s items old new places
    → Records (start_of (run_of s.program (record_of s items new places) traced).setup) (record_of s items new places)
records s items old new places traced made =
    let count = harts_kept s items old new places made in
    rw count (records_all (start_of s) old new places (record_of s items new places) made.stands refl made.traces made.lines made.capacity
    refl refl refl refl)

-- the events with their places are those of the trace
pub events_told : (run : RunView) → IsRun run → events_in run.traced ≡ run.events
events_told run is =
    sym (is.events ∙ has_events 0 (start_of run.setup) is.end (all_steps run.schedule) run.traced is.traced)

-- the same of a record and of places that are what is kept
pub run_kept : (s : Setup) (items : List Item) (old new : MachineView) (places kept_places : List EventPlace) (recorded : RecordedView)
    → Makes s items old new places → recorded ≡ record_of s items new places → kept_places ≡ places
    → IsRun (run_of s.program recorded (with_places kept_places recorded.trace))
    × Records (start_of (run_of s.program recorded (with_places kept_places recorded.trace)).setup) recorded
run_kept s items old new places kept_places recorded made kept same =
    rw (kept, same) (is_run s items old new places made, records s items old new places (with_places places new.shared.trace) made)

pub setup_of_kept : (s : Setup) (items : List Item) (old new : MachineView) (places : List EventPlace) (traced : List TracedEvent) (recorded : RecordedView)
    → Makes s items old new places → recorded ≡ record_of s items new places → (run_of s.program recorded traced).setup ≡ s
setup_of_kept s items old new places traced recorded made kept = rw kept (setup_kept s items old new places traced made)
