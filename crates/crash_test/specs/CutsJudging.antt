-- The verdict on events, and on the run of a program by a schedule, by a recovery routine, with power cuts while that runs or after it has ended.
use Rattle.std.specs.Prelude.{◌≢◌, ℕ, ◌≤◌, List, [], Option, length}
use Rattle.crash_test.specs.Judging.{view_of, view_on}
use Rattle.crash_test.specs.Rows.{Row}
use Rattle.machine.specs.Replies.{trace_in}
use Rattle.machine.specs.Run.{Config, RunsTo}
use Rattle.machine.specs.RunValues.{RunView, start_of}
use Rattle.machine.specs.Steps.{all_steps}
use Rattle.machine.specs.declared.recording.setup.Setup.{Setup}
use Rattle.machine.specs.declared.schedule.items.Item.{Item}
use Rattle.routine_judge.specs.Chains.{IsCutsVerdict, most_of}
use Rattle.routine_judge.specs.CutVerdicts.{IsJudgedWith}
use Rattle.routine_judge.specs.CutsInRecovery.{StaysRight}
use Rattle.routine_judge.specs.MarkFaults.{AreSound}
use Rattle.routine_judge.specs.Rules.{JudgementView}
use Rattle.routine_judge.specs.Verdicts.{first_judged, judged_from}
use Rattle.routine_judge.specs.declared.cuts.outcome.CutsVerdict.{CutsVerdict}
use Rattle.routine_judge.specs.declared.cuts.outcome.RecoveryCuts.{RecoveryCuts}
use Rattle.store_trace.specs.Marks.{begun}
use Rattle.store_trace.specs.declared.event.Event.{Event}
use Rattle.verdict.specs.GoingOn.{settled}
use Rattle.verdict.specs.Progress.{IsTold}
use Rattle.verdict.specs.Rows.{end_of}

-- the verdict on those of these moments of events from a medium that are judged; the events' marks are right
pub record HasCutsJudgementOn (start : List (List ℕ)) (events : List Event) (judgement : JudgementView) (asked : RecoveryCuts) (row : Row) (verdict : CutsVerdict) : Type 0 where
  pub sound : AreSound judgement.overlap events (length events)
  pub begins : begun events ≢ []
  pub verdict_is : IsCutsVerdict row.goes_on (view_on start judgement events) asked
      (judged_from events row.first (end_of events row.last)) (end_of events row.last) verdict

-- On the way to that verdict somebody is told of moments that stay right by as many cuts as are asked for, or are open; `hears` says what becomes of the
-- hearer each time.
abbrev pub IsToldOfCutsOn : {Hearer : Type 0} → (Hearer → ℕ → ℕ → Option ℕ → Hearer → Type 0) → List (List ℕ) → List Event → JudgementView → RecoveryCuts → Row
    → Hearer → Hearer → Type 0
IsToldOfCutsOn hears start events judgement asked row =
    IsTold hears (settled row.goes_on (IsJudgedWith (most_of asked) (view_on start judgement events))) events
    (judged_from events row.first (end_of events row.last)) (end_of events row.last)

-- the same of a run
abbrev pub HasCutsJudgement : RunView → JudgementView → RecoveryCuts → Row → CutsVerdict → Type 0
HasCutsJudgement run judgement asked row verdict = HasCutsJudgementOn run.setup.medium run.events judgement asked row verdict

abbrev pub IsToldOfCuts : {Hearer : Type 0} → (Hearer → ℕ → ℕ → Option ℕ → Hearer → Type 0) → RunView → JudgementView → RecoveryCuts → Row → Hearer → Hearer → Type 0
IsToldOfCuts hears run judgement asked row = IsToldOfCutsOn hears run.setup.medium run.events judgement asked row

-- Wherever the power is cut from the first Begin of the run on, and then up to so often, or however often, while recovery runs or after it has ended: the
-- routine has an answer, a right one, and the one that was shown where one was.
abbrev pub StaysRecovered : Setup → List Item → JudgementView → RecoveryCuts → Type 0
StaysRecovered s schedule judgement asked = (end : Config) (moment : ℕ) → RunsTo (start_of s) (all_steps schedule) end
    → first_judged (trace_in end.common) ≤ moment → moment ≤ length (trace_in end.common)
    → StaysRight (view_of s judgement (trace_in end.common)) (most_of asked) moment
