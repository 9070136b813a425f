-- The verdict on events, and on the run of a program by a schedule, by a recovery routine.
use Rattle.std.specs.Prelude.{◌≡◌, ◌≢◌, ℕ, ◌≤◌, Bool, List, [], Option, None, Ok, length}
use Rattle.store_trace.specs.Cut.{IsCut, number_in}
use Rattle.store_trace.specs.Marks.{begun}
use Rattle.routine_judge.specs.RightAnswers.{IsFoundOf, IsRightOf, IsSource, Source}
use Rattle.routine_judge.specs.Rules.{JudgementView}
use Rattle.routine_judge.specs.Verdicts.{IsJudged, first_judged, judged_from}
use Rattle.routine_judge.specs.Views.{JudgeView}
use Rattle.routine_judge.specs.declared.cause.Cause.{Cause}
use Rattle.routine_judge.specs.MarkFaults.{AreSound}
use Rattle.machine.specs.Replies.{trace_in}
use Rattle.machine.specs.Run.{Config, RunsTo, started}
use Rattle.verdict.specs.GoingOn.{IsVerdictOn, settled}
use Rattle.verdict.specs.Progress.{IsTold}
use Rattle.verdict.specs.declared.moment_verdict.verdict.Verdict.{Verdict}
use Rattle.verdict.specs.Rows.{end_of}
use Rattle.recovery.specs.Answers.{answer}
use Rattle.recovery.specs.Recovery.{RunsFor}
use Rattle.machine.specs.Steps.{all_steps}
use Rattle.machine.specs.declared.schedule.items.Item.{Item}
use Rattle.store_trace.specs.History.{at_moment}
use Rattle.store_trace.specs.declared.event.Event.{Event}
use Rattle.crash_test.specs.Checking.{HoldsAfterPowerCuts}
use Rattle.crash_test.specs.Rows.{Row}
use Rattle.machine.specs.RunValues.{start_of}
use Rattle.machine.specs.declared.recording.setup.Setup.{Setup}
use Rattle.machine.specs.RunValues.{RunView}

-- these events from a medium, judged like this
abbrev pub view_on : List (List ℕ) → JudgementView → List Event → JudgeView
view_on start judgement events = record {
  routine = judgement.routine;
  steps = judgement.steps;
  start = start;
  events = events;
  right = judgement.right;
}

abbrev pub view_of : Setup → JudgementView → List Event → JudgeView
view_of s judgement events = view_on s.medium judgement events

-- the verdict on those of these moments of events from a medium that are judged; the events' marks are right
pub record HasJudgementOn (start : List (List ℕ)) (events : List Event) (judgement : JudgementView) (row : Row) (verdict : Verdict Cause) : Type 0 where
  pub sound : AreSound judgement.overlap events (length events)
  pub begins : begun events ≢ []
  pub verdict_is : IsVerdictOn row.goes_on (IsJudged (view_on start judgement events)) events
      (judged_from events row.first (end_of events row.last)) (end_of events row.last) verdict

-- on the way to that verdict somebody is told of moments behind which judging goes on; `hears` says what becomes of the hearer each time
abbrev pub IsToldOn : {Hearer : Type 0} → (Hearer → ℕ → ℕ → Option ℕ → Hearer → Type 0) → List (List ℕ) → List Event → JudgementView → Row
    → Hearer → Hearer → Type 0
IsToldOn hears start events judgement row = IsTold hears (settled row.goes_on (IsJudged (view_on start judgement events))) events
    (judged_from events row.first (end_of events row.last)) (end_of events row.last)

-- the same of a run
abbrev pub HasJudgement : RunView → JudgementView → Row → Verdict Cause → Type 0
HasJudgement run judgement row verdict = HasJudgementOn run.setup.medium run.events judgement row verdict

abbrev pub IsToldOf : {Hearer : Type 0} → (Hearer → ℕ → ℕ → Option ℕ → Hearer → Type 0) → RunView → JudgementView → Row → Hearer → Hearer → Type 0
IsToldOf hears run judgement row = IsToldOn hears run.setup.medium run.events judgement row

-- whatever a power cut leaves at a moment of the run from its first Begin on: the routine has an answer, and a right one
pub record IsRightAt (view : JudgeView) (moment : ℕ) (cut : ℕ → ℕ) : Type 0 where
  pub source : Source
  pub is_source : IsSource view moment source
  pub right : IsFoundOf view source moment cut None

abbrev pub AlwaysRecovers : Setup → List Item → JudgementView → Type 0
AlwaysRecovers s schedule judgement = (end : Config) (moment : ℕ) (cut : List (ℕ × ℕ)) → RunsTo (start_of s) (all_steps schedule) end
    → first_judged (trace_in end.common) ≤ moment → moment ≤ length (trace_in end.common) → IsCut (at_moment (trace_in end.common) moment) cut
    → IsRightAt (view_of s judgement (trace_in end.common)) moment (number_in cut)

-- the routine, run on this medium, ends well, and its answer is a right one of the moment
pub record AnswersRightly (view : JudgeView) (moment : ℕ) (left : List (List ℕ)) : Type 0 where
  pub source : Source
  pub is_source : IsSource view moment source
  pub end : Config
  pub full : Bool
  pub runs : RunsFor (started view.routine left 1) view.steps end full
  pub bytes : List ℕ
  pub answers : Ok bytes ≡ answer end full
  pub right : IsRightOf view source bytes

-- Whatever machine, with a cache of whatever size, has made the first hart steps of the run and with them its first Begin, with evictions
-- wherever they came: on what a power cut leaves of it the routine answers rightly.
abbrev pub AnswersAfterPowerCuts : Setup → List Item → JudgementView → Type 0
AnswersAfterPowerCuts s schedule judgement = (whole : Config) → RunsTo (start_of s) (all_steps schedule) whole
    → HoldsAfterPowerCuts s schedule (λ events left. first_judged (trace_in whole.common) ≤ length events
    → AnswersRightly (view_of s judgement (trace_in whole.common)) (length events) left)
