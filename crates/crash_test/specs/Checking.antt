-- The verdict on events, and on the run of a program by a schedule.
use Rattle.std.specs.Prelude.{◌≡◌, ℕ, ◌≤◌, ◌++◌, List, Option, Ok, length, take}
use Rattle.store_trace.specs.Cut.{IsCut}
use Rattle.image_check.specs.Legal.{IsLegal}
use Rattle.image_check.specs.OrderFaults.{AreSound}
use Rattle.image_check.specs.Verdicts.{Passes, judged_at}
use Rattle.image_check.specs.declared.cause.Cause.{Cause}
use Rattle.machine.specs.Replies.{trace_in}
use Rattle.machine.specs.Evicting.{hart_steps}
use Rattle.machine.specs.Run.{Config, RunsTo}
use Rattle.machine.specs.Represents.{MachineView, Represents}
use Rattle.verdict.specs.GoingOn.{IsVerdictOn, settled}
use Rattle.verdict.specs.Progress.{IsTold}
use Rattle.verdict.specs.declared.moment_verdict.verdict.Verdict.{Verdict}
use Rattle.nova_log.specs.Volumes.{volume_of}
use Rattle.verdict.specs.Rows.{end_of}
use Rattle.plan.specs.declared.operation.Operation.{Operation}
use Rattle.machine.specs.Steps.{all_steps}
use Rattle.machine.specs.declared.schedule.items.Item.{Item}
use Rattle.machine.specs.declared.schedule.items.Step.{Step}
use Rattle.store_trace.specs.History.{at_moment}
use Rattle.store_trace.specs.declared.event.Event.{Event}
use Rattle.machine.specs.RunValues.{start_of}
use Rattle.machine.specs.declared.recording.setup.Setup.{Setup}
use Rattle.machine.specs.RunValues.{RunView}
use Rattle.nova_log.specs.declared.volume.entry.Entry.{Entry}
use Rattle.crash_test.specs.Rows.{Row}

-- the verdict on these moments of events that start from a medium, whose marks are right
pub record HasVerdictOn (plan : List Operation) (start : List (List ℕ)) (events : List Event) (row : Row) (verdict : Verdict Cause) : Type 0 where
  pub sound : AreSound plan events (length events)
  pub verdict_is : IsVerdictOn row.goes_on (judged_at plan start events) events row.first (end_of events row.last) verdict

-- on the way to that verdict somebody is told of moments behind which judging goes on; `hears` says what becomes of the hearer each time
abbrev pub IsToldOn : {Hearer : Type 0} → (Hearer → ℕ → ℕ → Option ℕ → Hearer → Type 0) → List Operation → List (List ℕ) → List Event → Row
    → Hearer → Hearer → Type 0
IsToldOn hears plan start events row =
    IsTold hears (settled row.goes_on (judged_at plan start events)) events row.first (end_of events row.last)

-- the same of a run
abbrev pub HasVerdict : List Operation → RunView → Row → Verdict Cause → Type 0
HasVerdict plan run row verdict = HasVerdictOn plan run.setup.medium run.events row verdict

abbrev pub IsToldOf : {Hearer : Type 0} → (Hearer → ℕ → ℕ → Option ℕ → Hearer → Type 0) → List Operation → RunView → Row → Hearer → Hearer → Type 0
IsToldOf hears plan run row = IsToldOn hears plan run.setup.medium run.events row

-- whatever a power cut leaves at whatever moment of the run recovers to a legal volume
abbrev pub AlwaysPasses : List Operation → Setup → List Item → Type 0
AlwaysPasses plan s schedule = (end : Config) (moment : ℕ) (cut : List (ℕ × ℕ)) → RunsTo (start_of s) (all_steps schedule) end
    → moment ≤ length (trace_in end.common) → IsCut (at_moment (trace_in end.common) moment) cut
    → Passes plan s.medium (take moment (trace_in end.common)) cut

-- Whatever machine, with a cache of whatever size, has made the first hart steps of the run, with evictions wherever they came: so it is
-- with its events and with what a power cut leaves of it.
abbrev pub HoldsAfterPowerCuts : Setup → List Item → (List Event → List (List ℕ) → Type 0) → Type 0
HoldsAfterPowerCuts s schedule is_so = (machine : MachineView) (end : Config) (steps rest : List Step)
    → RunsTo (start_of s) steps end → hart_steps (all_steps schedule) ≡ hart_steps steps ++ hart_steps rest → Represents machine end
    → is_so (trace_in end.common) machine.shared.cache.lines

-- a medium recovers to a volume that is legal after these events
pub record Recovers (plan : List Operation) (start : List (List ℕ)) (events : List Event) (left : List (List ℕ)) : Type 0 where
  pub volume : List (List Entry)
  pub recovers : volume_of left ≡ Ok volume
  pub legal : IsLegal plan (volume_of start) events volume

-- what a power cut leaves of such a machine recovers to a legal volume
abbrev pub SurvivesPowerCuts : List Operation → Setup → List Item → Type 0
SurvivesPowerCuts plan s schedule = HoldsAfterPowerCuts s schedule (Recovers plan s.medium)
