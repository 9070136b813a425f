-- What holds of every schedule where all states are good.
use Rattle.std.proofs.Common.{◌≡◌, ℕ, Bool, false, List, ◌++◌, subst}
use Rattle.crash_test.specs.Checking.{Recovers}
use Rattle.hart.specs.declared.state.Status.{Status}
use Rattle.hart.specs.declared.state.Status.TheVariants.{Exited}
use Rattle.image_check.specs.Images.{IsGood, Passes}
use Rattle.image_check.specs.PlanStates.{IsPlanState}
use Rattle.image_check.specs.declared.plan_state.PlanState.{PlanState}
use Rattle.machine.proofs.RunParts.{run_joined}
use Rattle.machine.specs.Replies.{trace_in}
use Rattle.machine.specs.RunValues.{start_of}
use Rattle.machine.specs.declared.recording.setup.Setup.{Setup}
use Rattle.nova_log.specs.Volumes.{volume_of}
use Rattle.plan.specs.declared.operation.Operation.{Operation}
use Rattle.schedule_states.specs.Ending.{AlwaysEnds, CanEnd}
use Rattle.schedule_states.specs.Exploring.{IfAll}
use Rattle.schedule_states.specs.Judging.{AlwaysGood}
use Rattle.schedule_states.specs.declared.exploring.Explored.{Explored}
use Rattle.schedule_states.specs.declared.exploring.Explored.TheVariants as known
use Rattle.std.specs.Result.{result_ok}
use Rattle.store_trace.proofs.Lines.{within_from_cut}
use Rattle.store_trace.specs.Cut.{IsCut, IsCutImage, number_in}
use Rattle.store_trace.specs.History.{history}
use Rattle.store_trace.specs.declared.event.Event.{Event}
use Rattle.witness.proofs.HartRuns.{run_start}
use Rattle.witness.proofs.Leaving.{leaves_a_cut}
use Rattle.every_schedule.specs.EverySchedule.{AllCanEnd, AllEndWell, AllPass, AllSurvive, IfPass}
use Rattle.every_schedule.specs.Showing.{PassesNot}
use Rattle.every_schedule.specs.declared.outcome.Outcome.{Outcome}
use Rattle.every_schedule.specs.declared.outcome.Outcome.TheVariants as outcomes

-- all states are good by a plan
abbrev pub AreAllGood : List Operation → Setup → Bool → Type 0
AreAllGood plan s any_end = AlwaysGood (λ (state : PlanState) (events : List Event). IsPlanState plan (result_ok (volume_of s.medium)) events state)
    (λ (events : List Event) (hart : ℕ). Unit {0}) (λ (events : List Event) (full image : List (List ℕ)). IsGood plan s.medium events image)
    (λ (status : Status). any_end ≡ false → status ≡ Exited 0) s.program s.medium s.harts

pub all_pass : (plan : List Operation) (s : Setup) (any_end : Bool) → AreAllGood plan s any_end → AllPass plan s
all_pass plan s any_end good steps end runs =
    let all = good steps end runs (λ before after h c is led. tt) in (
      all.0.1.sound,
      λ cut is. all.1 (number_in cut) (within_from_cut (history (trace_in end.common)) cut is),
    )

pub all_end_well : (plan : List Operation) (s : Setup) (any_end : Bool) → AreAllGood plan s any_end → any_end ≡ false → AllEndWell s
all_end_well plan s any_end good asked steps end h hart runs here stopped = (good steps end runs (λ before after k c is led. tt)).2 h hart here stopped asked

-- where one can always come to an end, and harts end well, each can exit
pub all_can_end : (s : Setup) → AllEndWell s → AlwaysEnds s.program s.medium s.harts → AllCanEnd s
all_can_end s well ends steps c runs =
    let end : CanEnd c = ends steps c runs in (
      end.steps,
      end.end,
      end.runs,
      λ h hart here. well (steps ++ end.steps) end.end h hart (run_joined (start_of s) c end.end steps end.steps runs end.runs) here (end.stopped h hart here),
    )

-- the image of a cut recovers where each cut passes
cut_recovers : (plan : List Operation) (start : List (List ℕ)) (events : List Event) (left : List (List ℕ)) → IsCutImage start (history events) left →
    ((cut : List (ℕ × ℕ)) → IsCut (history events) cut → Passes plan start events cut) → Recovers plan start events left
cut_recovers plan start events left image passes =
    let passed : Passes plan start events image.cut = passes image.cut image.bounds in
    record { volume = passed.volume; recovers = rw image.bytes passed.recovers; legal = passed.legal }

-- what a power cut leaves of a machine is the image of a cut
pub all_survive : (plan : List Operation) (s : Setup) → AllPass plan s → AllSurvive plan s
all_survive plan s passes machine steps end runs stands =
    let left : IsCutImage end.common.start (history (trace_in end.common)) machine.shared.cache.lines = leaves_a_cut machine end stands in
    let start : end.common.start ≡ s.medium = run_start (start_of s) end steps runs in
    let image : IsCutImage s.medium (history (trace_in end.common)) machine.shared.cache.lines =
    subst (λ (lines : List (List ℕ)). IsCutImage lines (history (trace_in end.common)) machine.shared.cache.lines) start left in
    cut_recovers plan s.medium (trace_in end.common) machine.shared.cache.lines image (passes steps end runs).1

pub all_told : (explored : Explored) (one other : Type 0) → (one → other) → IfAll explored one → IfAll explored other
all_told (known.All states moments) one other so is = so is
all_told (known.Found stop requests) one other so is = tt
all_told (known.NoWayOut requests) one other so is = tt
all_told known.TooMany one other so is = tt

-- an outcome that is no pass claims nothing of all schedules
pub no_pass : {C F : Type 0} (outcome : Outcome C F) (claim : Type 0) → PassesNot outcome → IfPass outcome claim
no_pass (outcomes.Pass states moments) claim other = absurd other
no_pass (outcomes.Found run finding) claim other = tt
no_pass (outcomes.TooMany bound) claim other = tt

pub all_passed : {C F : Type 0} (outcome : Outcome C F) (one other : Type 0) → (one → other) → IfPass outcome one → IfPass outcome other
all_passed (outcomes.Pass states moments) one other so is = so is
all_passed (outcomes.Found run finding) one other so is = tt
all_passed (outcomes.TooMany bound) one other so is = tt
