-- What a pass says of the machine: it represents a cut of the run's events, whatever its cache did.
use Rattle.std.proofs.Common.{◌≡◌, ℕ, ◌+◌, ◌≤◌, List, [], ◌∷◌, ◌++◌, length, take, refl, sym, ap, ◌∙◌, arith}
use Rattle.std.proofs.lemmas.List.{length-append}
use Rattle.store_trace.specs.Cut.{IsCutImage}
use Rattle.witness.proofs.HartRuns.{run_start}
use Rattle.witness.proofs.Leaving.{leaves_a_cut}
use Rattle.witness.proofs.Lists.{hart_steps_append}
use Rattle.image_check.specs.Verdicts.{Passes}
use Rattle.machine.specs.Replies.{trace_in}
use Rattle.machine.proofs.Determined.{runs_once}
use Rattle.machine.proofs.Evicting.{alike_itself, runs_alike, trace_alike}
use Rattle.machine.proofs.RunParts.{run_grows, run_parted}
use Rattle.machine.specs.Evicting.{hart_steps}
use Rattle.machine.specs.Represents.{MachineView, Represents}
use Rattle.machine.specs.Run.{Config, RunsTo}
use Rattle.plan.specs.declared.operation.Operation.{Operation}
use Rattle.machine.specs.Steps.{all_steps}
use Rattle.machine.specs.declared.schedule.items.Item.{Item}
use Rattle.machine.specs.declared.schedule.items.Step.{Step}
use Rattle.store_trace.specs.History.{history}
use Rattle.store_trace.specs.declared.event.Event.{Event}
use Rattle.crash_test.proofs.Running.{has_trace}
use Rattle.machine.specs.RunValues.{IsRun, RunView}
use Rattle.crash_test.specs.Checking.{AlwaysPasses, Recovers, SurvivesPowerCuts}
use Rattle.machine.specs.RunValues.{start_of}
use Rattle.machine.specs.declared.recording.setup.Setup.{Setup}

-- the events of a run's first hart steps are its first events
events_in_front : (s : Setup) (schedule : List Item) (end whole : Config) (steps rest : List Step)
    → RunsTo (start_of s) (all_steps schedule) whole → RunsTo (start_of s) steps end
    → hart_steps (all_steps schedule) ≡ hart_steps steps ++ hart_steps rest
    → (more : List Event) × (trace_in whole.common ≡ trace_in end.common ++ more)
events_in_front s schedule end whole steps rest runs first split =
    let same : hart_steps (all_steps schedule) ≡ hart_steps (steps ++ rest) = split ∙ sym (hart_steps_append steps rest) in
    let other = runs_alike (start_of s) (start_of s) whole (all_steps schedule) (steps ++ rest) (alike_itself (start_of s)) same runs in
    let parts = run_parted (start_of s) other.0 steps rest other.1 in
    let one : parts.0 ≡ end = runs_once (start_of s) steps parts.0 end parts.1 first in
    let grown = run_grows parts.0 other.0 rest parts.2 in
    (grown.0, trace_alike whole other.0 other.2 ∙ grown.1 ∙ ap (λ (c : Config). trace_in c.common ++ grown.0) one)

taken_front : (front more : List Event) → take (length front) (front ++ more) ≡ front
taken_front [] more = refl
taken_front (event ∷ front) more = ap (λ (events : List Event). event ∷ events) (taken_front front more)

-- these lines are the image of a cut of the moment of a trace right after these events of it
pub record IsLeftAfter (start : List (List ℕ)) (trace events : List Event) (left : List (List ℕ)) : Type 0 where
  pub within : length events ≤ length trace
  pub front : take (length events) trace ≡ events
  pub image : IsCutImage start (history events) left

-- so it is with what a power cut leaves of a machine that has made the first hart steps of a run
pub left_after : (s : Setup) (schedule : List Item) (whole : Config) (machine : MachineView) (end : Config) (steps rest : List Step)
    → RunsTo (start_of s) (all_steps schedule) whole → RunsTo (start_of s) steps end
    → hart_steps (all_steps schedule) ≡ hart_steps steps ++ hart_steps rest → Represents machine end
    → IsLeftAfter s.medium (trace_in whole.common) (trace_in end.common) machine.shared.cache.lines
left_after s schedule whole machine end steps rest runs first split stands =
    let front = events_in_front s schedule end whole steps rest runs first split in
    let size : length (trace_in whole.common) ≡ length (trace_in end.common) + length front.0 =
    ap (λ (trace : List Event). length trace) front.1 ∙ length-append (trace_in end.common) front.0 in
    let left : IsCutImage end.common.start (history (trace_in end.common)) machine.shared.cache.lines = leaves_a_cut machine end stands in
    let start : end.common.start ≡ s.medium = run_start (start_of s) end steps first in
    record {
      within = omega arith;
      front = ap (λ (trace : List Event). take (length (trace_in end.common)) trace) front.1 ∙ taken_front (trace_in end.common) front.0;
      image = rw start at left;
    }

-- each cut of these events was judged
left_recovers : (plan : List Operation) (s : Setup) (schedule : List Item) (whole : Config) (events : List Event) (left : List (List ℕ))
    → AlwaysPasses plan s schedule → RunsTo (start_of s) (all_steps schedule) whole → IsLeftAfter s.medium (trace_in whole.common) events left
    → Recovers plan s.medium events left
left_recovers plan s schedule whole events left passes runs after =
    let judged : Passes plan s.medium (take (length events) (trace_in whole.common)) after.image.cut =
    passes whole (length events) after.image.cut runs after.within (rw after.front after.image.bounds) in
    let passed : Passes plan s.medium events after.image.cut = rw after.front at judged in
    record { volume = passed.volume; recovers = rw after.image.bytes passed.recovers; legal = passed.legal }

pub survives : (plan : List Operation) (run : RunView) → AlwaysPasses plan run.setup run.schedule → IsRun run
    → SurvivesPowerCuts plan run.setup run.schedule
survives plan run passes is machine end steps rest first split stands =
    let whole = has_trace run is in
    let after = left_after run.setup run.schedule whole.end machine end steps rest whole.run first split stands in
    left_recovers plan run.setup run.schedule whole.end (trace_in end.common) machine.shared.cache.lines passes whole.run after
