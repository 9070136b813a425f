-- `--why` of `judge`: what is told of the answer on a failing image, and of the right ones.
use Rattle.std.specs.Prelude.{◌≡◌, ◌⊎◌, ◌++◌, ℕ, Bool, true, false, List, [], Option, Some, None, Result, Ok, Err, MatchResult}
use Rattle.std.specs.List.{flat_map}
use Rattle.crash_test.specs.Answers.{IsAnswerAt}
use Rattle.crash_test.specs.Judging.{view_on}
use Rattle.crash_test.specs.Told.{LacksImage}
use Rattle.crash_test.specs.declared.losses.ExplainedImage.{ExplainedImage}
use Rattle.recovery.specs.declared.recovery_run.Cause.{Cause as RunCause}
use Rattle.report.specs.Answers.{answer_line, answer_object, right_line, right_object}
use Rattle.routine_judge.specs.RightMoments.{AreRightAt}
use Rattle.routine_judge.specs.Verdicts.{IsRefusal}
use Rattle.routine_judge.specs.Views.{JudgeView, RightBy, own_moments, sequential_runs}
use Rattle.routine_judge.specs.declared.cause.Cause.{Cause}
use Rattle.routine_judge.specs.declared.right_moments.RightAnswer.{RightAnswer}
use Rattle.text.specs.declared.image_name.name.ImageName.{ImageName}
use Rattle.verdict.specs.declared.moment_verdict.verdict.Verdict.{Verdict}
use Rattle.command_line.specs.Failures.{failure_of_image, failure_of_judge}
use Rattle.command_line.specs.Judging.{cause_text, judgement_asked, overlap_asked, right_asked}
use Rattle.command_line.specs.Reasons.{IsToldWhy}
use Rattle.command_line.specs.Steps.{Tells}
use Rattle.command_line.specs.Traces.{events_of, medium_of}
use Rattle.command_line.specs.Verdicts.{failing, told_verdict, verdict_status}
use Rattle.command_line.specs.declared.answer.Answer.{Answer}
use Rattle.command_line.specs.declared.failure.Failure.{Failure}
use Rattle.command_line.specs.declared.failure.Failure.TheVariants.{Memory}
use Rattle.command_line.specs.declared.opened.OpenJudge.{OpenJudge}
use Rattle.command_line.specs.declared.told_answers.ToldAnswers.{ToldAnswers}

-- the events, judged as is asked for
abbrev pub view_asked : OpenJudge → JudgeView
view_asked judge = view_on (medium_of judge.events) (judgement_asked judge) (events_of judge.events)

-- the right answers that are told of a moment, each with the moment that gives it; none where sequential runs give them
abbrev pub AreRightBy : RightBy → JudgeView → ℕ → List RightAnswer → Type 0
AreRightBy own_moments view moment right = AreRightAt view moment right
AreRightBy (sequential_runs program harts) view moment right = right ≡ []

abbrev pub AreRightFor : OpenJudge → ℕ → List RightAnswer → Type 0
AreRightFor judge moment right = AreRightBy (right_asked judge.command.right judge.start) (view_asked judge) moment right

-- why they aren't told
abbrev pub IsRefused : OpenJudge → ℕ → Failure → Type 0
IsRefused judge moment = Tells (IsRefusal (overlap_asked judge.command.right) (events_of judge.events) moment) failure_of_judge

-- the answer that the routine has on an image, and the right ones of its moment; where it has none nothing is told
abbrev pub AreToldBy : OpenJudge → ℕ → Result (List ℕ) RunCause → Option ToldAnswers → Type 0
AreToldBy judge moment (Ok bytes) (Some told) = (told.answer ≡ bytes) × AreRightFor judge moment told.right.items
AreToldBy judge moment (Ok bytes) None = ⊥
AreToldBy judge moment (Err cause) told = told ≡ None

pub record AreAnswersAt (judge : OpenJudge) (moment : ℕ) (image : ImageName) (told : Option ToldAnswers) : Type 0 where
  pub found : Result (List ℕ) RunCause
  pub is_found : IsAnswerAt judge.recovery judge.command.steps (medium_of judge.events) (events_of judge.events) moment image found
  pub are_told : AreToldBy judge moment found told

-- why they aren't told: there is no such image, or nothing is right
abbrev pub AreUntold : OpenJudge → ℕ → ImageName → Failure → Type 0
AreUntold judge moment image failure = Tells (LacksImage (events_of judge.events) moment image) failure_of_image failure ⊎ IsRefused judge moment failure

pub record TellsAnswersAt (judge : OpenJudge) (moment : ℕ) (image : ImageName) (outcome : Result (Option ToldAnswers) Failure) : Type 0 where
  pub tells : MatchResult outcome (AreAnswersAt judge moment image) (AreUntold judge moment image)

-- so of a failing image, where that is asked for
abbrev pub TellsAnswersOf : OpenJudge → Option (ℕ × ImageName) → Result (Option ToldAnswers) Failure → Type 0
TellsAnswersOf judge None outcome = outcome ≡ Ok None
TellsAnswersOf judge (Some image) outcome = TellsAnswersAt judge image.0 image.1 outcome

pub record TellsAnswers (judge : OpenJudge) (verdict : Verdict Cause) (outcome : Result (Option ToldAnswers) Failure) : Type 0 where
  pub tells : TellsAnswersOf judge (failing judge.command.judged.why verdict) outcome

-- the answer on an image, as a line or as an object
abbrev pub told_answer : Bool → List ℕ → List ℕ
told_answer true bytes = answer_object bytes
told_answer false bytes = answer_line bytes

-- a right one
abbrev pub told_right : Bool → RightAnswer → List ℕ
told_right true right = right_object right.answer right.moment
told_right false right = right_line right.answer right.moment

-- the answer, and behind it each right one
abbrev pub answers_text : Bool → ToldAnswers → List ℕ
answers_text json told = told_answer json told.answer ++ flat_map (told_right json) told.right.items

abbrev pub told_answers : Bool → Option ToldAnswers → List ℕ
told_answers json None = []
told_answers json (Some told) = answers_text json told

-- the verdict, behind it the answers on a failing image, and behind them what that lacks and keeps; with the verdict's status
pub record IsJudgedAnswer (judge : OpenJudge) (verdict : Verdict Cause) (answers : Option ToldAnswers) (why : Option ExplainedImage) (answer : Answer) : Type 0 where
  pub reasons : List ℕ
  pub told : IsToldWhy judge.command.judged.json judge.events why reasons
  pub text : answer.text.items ≡ told_verdict cause_text judge.command.judged.json verdict ++ (told_answers judge.command.judged.json answers ++ reasons)
  pub status : answer.status ≡ verdict_status verdict

-- that is printed; memory for it may be refused
pub record PrintsJudged (judge : OpenJudge) (verdict : Verdict Cause) (answers : Option ToldAnswers) (why : Option ExplainedImage)
    (outcome : Result Answer Failure) : Type 0 where
  pub prints : MatchResult outcome (IsJudgedAnswer judge verdict answers why) (λ failure. failure ≡ Memory)
