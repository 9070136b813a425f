-- What a pass says of the run.
use Rattle.std.proofs.Common.{◌≡◌, ℕ, ◌+◌, ◌≤◌, Bool, inl, inr, List, Option, None, length, sym, ap, ◌∙◌, arith}
use Rattle.std.specs.Prelude.{max, min}
use Rattle.store_trace.specs.Cut.{number_in}
use Rattle.store_trace.specs.Image.{image}
use Rattle.routine_judge.specs.Rules.{JudgementView}
use Rattle.routine_judge.specs.Verdicts.{IsJudged, first_judged, judged_from}
use Rattle.routine_judge.specs.Views.{JudgeView}
use Rattle.routine_judge.specs.declared.cause.Cause.{Cause}
use Rattle.machine.specs.Replies.{trace_in}
use Rattle.machine.proofs.Determined.{runs_once}
use Rattle.machine.specs.Run.{Config, RunsTo}
use Rattle.verdict.specs.GoingOn.{IsVerdictOn}
use Rattle.verdict.specs.Verdicts.{PassBetween}
use Rattle.verdict.specs.declared.moment_verdict.verdict.MomentVerdict.{MomentVerdict}
use Rattle.verdict.specs.declared.moment_verdict.verdict.MomentVerdict.TheVariants as moments
use Rattle.verdict.specs.declared.moment_verdict.verdict.Verdict.{Verdict}
use Rattle.verdict.specs.declared.moment_verdict.verdict.Verdict.TheVariants.{Pass}
use Rattle.verdict.specs.Rows.{end_of}
use Rattle.machine.specs.Steps.{all_steps}
use Rattle.machine.specs.declared.schedule.items.Item.{Item}
use Rattle.store_trace.specs.History.{at_moment, history}
use Rattle.store_trace.specs.declared.event.Event.{Event}
use Rattle.crash_test.proofs.Surviving.{IsLeftAfter, left_after}
use Rattle.machine.specs.RunValues.{start_of}
use Rattle.machine.specs.declared.recording.setup.Setup.{Setup}
use Rattle.crash_test.proofs.Running.{HasTrace}
use Rattle.crash_test.specs.Judging.{AlwaysRecovers, AnswersRightly, IsRightAt, AnswersAfterPowerCuts, view_of}

from_there : (fj end m : ℕ) → fj ≤ m → min (max 0 fj) end ≤ m
from_there fj end m h = omega (arith, h)

-- the run comes to one end, so its trace is the one that was judged
all_moments : (s : Setup) (schedule : List Item) (judgement : JudgementView) (trace : List Event) → HasTrace s schedule trace
    → PassBetween (IsJudged (view_of s judgement trace)) (judged_from trace 0 (length trace + 1)) (length trace + 1) → AlwaysRecovers s schedule judgement
all_moments s schedule judgement trace is passes end moment cut runs from within is_cut =
    let one_end : is.end ≡ end = runs_once (start_of s) (all_steps schedule) is.end end is.run runs in
    let same : trace ≡ trace_in end.common = is.trace_is ∙ ap (λ (c : Config). trace_in c.common) one_end in
    let all : PassBetween (IsJudged (view_of s judgement (trace_in end.common))) (judged_from (trace_in end.common) 0 (length (trace_in end.common) + 1))
    (length (trace_in end.common) + 1) = rw same at passes in
    let here = all moment (from_there (first_judged (trace_in end.common)) (length (trace_in end.common) + 1) moment from) (omega arith) in record {
      source = here.source;
      is_source = here.is_source;
      right = elim here.judged [
        | inl long ↦ absurd (let never : ◌≡◌ {A = MomentVerdict Cause} moments.Pass moments.TooLong = long.0 in cc)
        | inr passes ↦ passes.1.1 cut is_cut
      ];
    }

pub always_recovers : (s : Setup) (schedule : List Item) (judgement : JudgementView) (first : ℕ) (last : Option ℕ) (trace : List Event) (goes_on : Bool)
    (verdict : Verdict Cause) → HasTrace s schedule trace
    → IsVerdictOn goes_on (IsJudged (view_of s judgement trace)) trace (judged_from trace first (end_of trace last)) (end_of trace last) verdict
    → (moments : ℕ) (images : Option ℕ) → verdict ≡ Pass moments images → first ≡ 0 → last ≡ None → AlwaysRecovers s schedule judgement
always_recovers s schedule judgement first last trace goes_on verdict is judged moments images passed zero all =
    let whole : IsVerdictOn goes_on (IsJudged (view_of s judgement trace)) trace (judged_from trace 0 (length trace + 1)) (length trace + 1)
    (Pass moments images) = rw (passed, zero, all) at judged in
    all_moments s schedule judgement trace is whole.2

-- the image of a cut on which the routine is right
answers_rightly : (view : JudgeView) (moment : ℕ) (cut : List (ℕ × ℕ)) (left : List (List ℕ))
    → left ≡ image view.start (number_in cut) (at_moment view.events moment) → IsRightAt view moment (number_in cut) → AnswersRightly view moment left
answers_rightly view moment cut left same right =
    let shows = right.right.1 in record {
      source = right.source;
      is_source = right.is_source;
      end = shows.end;
      full = shows.full;
      runs = rw same shows.runs;
      bytes = right.right.0;
      answers = shows.comes;
      right = right.right.2;
    }

left_answers : (s : Setup) (schedule : List Item) (judgement : JudgementView) (whole : Config) (events : List Event) (left : List (List ℕ))
    → AlwaysRecovers s schedule judgement → RunsTo (start_of s) (all_steps schedule) whole → first_judged (trace_in whole.common) ≤ length events
    → IsLeftAfter s.medium (trace_in whole.common) events left → AnswersRightly (view_of s judgement (trace_in whole.common)) (length events) left
left_answers s schedule judgement whole events left recovers runs from after =
    let right : IsRightAt (view_of s judgement (trace_in whole.common)) (length events) (number_in after.image.cut) =
    recovers whole (length events) after.image.cut runs from after.within (rw after.front after.image.bounds) in
    answers_rightly (view_of s judgement (trace_in whole.common)) (length events) after.image.cut left
    (after.image.bytes ∙ ap (λ (front : List Event). image s.medium (number_in after.image.cut) (history front)) (sym after.front)) right

pub answers_after : (s : Setup) (schedule : List Item) (judgement : JudgementView) → AlwaysRecovers s schedule judgement
    → AnswersAfterPowerCuts s schedule judgement
answers_after s schedule judgement recovers whole runs machine end made rest first split stands from =
    left_answers s schedule judgement whole (trace_in end.common) machine.shared.cache.lines recovers runs from
    (left_after s schedule whole machine end made rest runs first split stands)
