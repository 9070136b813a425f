-- What holds of every schedule of a program, by a plan.
use Rattle.std.specs.List.{list_any}
use Rattle.std.specs.Prelude.{◌≡◌, ◌≢◌, ◌==◌, ℕ, Bool, false, true, not, List, None, Some, length, slice_get}
use Rattle.crash_test.specs.Checking.{HasVerdict, Recovers}
use Rattle.crash_test.specs.Rows.{Row}
use Rattle.crash_test.specs.Runs.{IsRunBy}
use Rattle.hart.specs.declared.state.HartState.{HartState}
use Rattle.hart.specs.declared.state.Status.{Status}
use Rattle.hart.specs.declared.state.Status.TheVariants.{Exited, Running, Trapped}
use Rattle.image_check.specs.Images.{Passes}
use Rattle.image_check.specs.OrderFaults.{AreSound, IsFirstFault}
use Rattle.image_check.specs.declared.cause.Cause.{Cause}
use Rattle.image_check.specs.declared.fault.OpFault.{OpFault}
use Rattle.machine.specs.Replies.{trace_in}
use Rattle.machine.specs.Represents.{MachineView, Represents}
use Rattle.machine.specs.Run.{Config, RunsTo}
use Rattle.machine.specs.RunValues.{RunView, start_of}
use Rattle.machine.specs.Steps.{all_steps}
use Rattle.machine.specs.declared.recording.setup.Setup.{Setup}
use Rattle.machine.specs.declared.schedule.items.Item.{Item}
use Rattle.machine.specs.declared.schedule.items.Step.{Step}
use Rattle.plan.specs.declared.operation.Operation.{Operation}
use Rattle.schedule_states.specs.Ending.{HasNoWayOut}
use Rattle.store_trace.specs.Cut.{IsCut}
use Rattle.store_trace.specs.History.{history}
use Rattle.unfinished.specs.Causes.{AreCauses, numbers_of}
use Rattle.unfinished.specs.declared.unfinished.Unfinished.{Unfinished}
use Rattle.verdict.specs.declared.moment_verdict.verdict.Verdict.{Verdict}
use Rattle.verdict.specs.declared.moment_verdict.verdict.Verdict.TheVariants as verdicts
use Rattle.every_schedule.specs.declared.outcome.Finding.{Finding}
use Rattle.every_schedule.specs.declared.outcome.Finding.TheVariants as findings
use Rattle.every_schedule.specs.declared.outcome.Outcome.{Outcome}
use Rattle.every_schedule.specs.declared.outcome.Outcome.TheVariants as outcomes

-- Whatever schedule has been run, of any length and with evictions anywhere, its marks are right, and all that a power cut may leave recovers
-- to a legal volume.
abbrev pub AllPass : List Operation → Setup → Type 0
AllPass plan s = (steps : List Step) (end : Config) → RunsTo (start_of s) steps end →
    AreSound plan (trace_in end.common) (length (trace_in end.common))
    × ((cut : List (ℕ × ℕ)) → IsCut (history (trace_in end.common)) cut → Passes plan s.medium (trace_in end.common) cut)

-- So does what a power cut leaves of whatever machine has run it, with a cache of any size.
abbrev pub AllSurvive : List Operation → Setup → Type 0
AllSurvive plan s = (machine : MachineView) (steps : List Step) (end : Config) → RunsTo (start_of s) steps end → Represents machine end →
    Recovers plan s.medium (trace_in end.common) machine.shared.cache.lines

-- Whatever schedule has been run, each hart that has stopped has exited with 0.
abbrev pub AllEndWell : Setup → Type 0
AllEndWell s = (steps : List Step) (end : Config) (h : ℕ) (hart : HartState) → RunsTo (start_of s) steps end → slice_get end.harts h ≡ Some hart →
    hart.status ≢ Running → hart.status ≡ Exited 0

-- each hart has exited with 0
abbrev pub HaveExited : List HartState → Type 0
HaveExited harts = (h : ℕ) (hart : HartState) → slice_get harts h ≡ Some hart → hart.status ≡ Exited 0

-- Whatever schedule has been run, some schedule leads on to where each hart has exited with 0.
abbrev pub AllCanEnd : Setup → Type 0
AllCanEnd s = (steps : List Step) (c : Config) → RunsTo (start_of s) steps c → (more : List Step) × (end : Config) × RunsTo c more end × HaveExited end.harts

-- the claim holds where all schedules pass
abbrev pub IfPass : {C F : Type 0} → Outcome C F → Type 0 → Type 0
IfPass (outcomes.Pass states moments) claim = claim
IfPass (outcomes.Found run finding) claim = Unit {0}
IfPass (outcomes.TooMany bound) claim = Unit {0}

-- all moments of a run are judged, and the first with too many branches ends the verdict
abbrev pub all_moments : Row
all_moments = record { first = 0; last = None; goes_on = false }

-- the verdict isn't that of a pass
abbrev pub IsNoPass : Verdict Cause → Type 0
IsNoPass (verdicts.Pass moments images) = ⊥
IsNoPass (verdicts.Open moments images undecided) = ⊥
IsNoPass (verdicts.Fail moment image cause of_too_many) = Unit {0}
IsNoPass (verdicts.TooMany moment lines) = Unit {0}
IsNoPass (verdicts.TooLong moment) = ⊥

-- a hart has trapped, or exited with another code than 0
abbrev pub is_bad_stop : Status → Bool
is_bad_stop Running = false
is_bad_stop (Exited code) = not (code == 0)
is_bad_stop (Trapped trap) = true

-- a hart of the run has stopped badly, and this keeps it from being whole, where these operations are planned
abbrev pub IsBadlyStopped : List ℕ → RunView → List Unfinished → Type 0
IsBadlyStopped planned run causes = AreCauses planned run.harts run.events causes × (list_any (λ hart. is_bad_stop hart.status) run.harts ≡ true)

-- no schedule leads on from the end of the run to where each hart has stopped
abbrev pub IsStuck : RunView → Type 0
IsStuck run = (end : Config) → RunsTo (start_of run.setup) (all_steps run.schedule) end → HasNoWayOut end

-- this is said of one run: its verdict, its first wrong mark, what keeps it from being whole, where a hart has stopped badly, or that it is stuck
abbrev pub IsSaidOf : List Operation → RunView → Finding Cause OpFault → Type 0
IsSaidOf plan run (findings.Verdict verdict) = HasVerdict plan run all_moments verdict × IsNoPass verdict
IsSaidOf plan run (findings.Refused fault) = IsFirstFault plan run.events fault
IsSaidOf plan run (findings.NotWhole causes) = IsBadlyStopped (numbers_of plan) run causes.items
IsSaidOf plan run findings.NoWayOut = IsStuck run

-- a run of this setup by some schedule
abbrev pub IsRunOf : Setup → RunView → Type 0
IsRunOf s run = (schedule : List Item) × IsRunBy s schedule run

-- what was found is said of such a run
abbrev pub IsFoundBy : {C F : Type 0} → (RunView → Finding C F → Type 0) → Setup → Outcome C F → Type 0
IsFoundBy said s (outcomes.Pass states moments) = Unit {0}
IsFoundBy said s (outcomes.Found run finding) = IsRunOf s run × said run finding
IsFoundBy said s (outcomes.TooMany bound) = Unit {0}

abbrev pub IsFoundOf : List Operation → Setup → Outcome Cause OpFault → Type 0
IsFoundOf plan s outcome = IsFoundBy (IsSaidOf plan) s outcome
