-- `--answers` of `judge`: what is told behind a pass of the answers on the full images of all moments.
use Rattle.std.specs.Prelude.{◌≡◌, ◌⊎◌, ◌++◌, ◌&&◌, ◌==◌, ℕ, Bool, true, false, List, Result, Ok, Err, MatchResult, length}
use Rattle.recovery.specs.declared.recovery_run.Cause.{Cause as RunCause}
use Rattle.report.specs.Answers.{answer_text, answers_line, answers_object, bytes_members, cause_member}
use Rattle.routine_judge.specs.RightMoments.{AreFullAnswers}
use Rattle.routine_judge.specs.declared.right_moments.FullAnswers.{FullAnswers}
use Rattle.command_line.specs.Judging.{missing_text}
use Rattle.command_line.specs.ToldAnswers.{IsRefused, view_asked}
use Rattle.command_line.specs.declared.answer.Answer.{Answer}
use Rattle.command_line.specs.declared.failure.Failure.{Failure}
use Rattle.command_line.specs.declared.failure.Failure.TheVariants.{Memory}
use Rattle.command_line.specs.declared.opened.OpenJudge.{OpenJudge}

-- an answer, as text or as members of an object
abbrev pub shown_answer : Bool → List ℕ → List ℕ
shown_answer true bytes = bytes_members bytes
shown_answer false bytes = answer_text bytes

-- the word for why there is none
abbrev pub shown_cause : Bool → RunCause → List ℕ
shown_cause true cause = cause_member (missing_text cause)
shown_cause false cause = missing_text cause

abbrev pub shown_last : Bool → Result (List ℕ) RunCause → List ℕ
shown_last json (Ok bytes) = shown_answer json bytes
shown_last json (Err cause) = shown_cause json cause

-- how many different answers there are, and what the full image of the last moment shows
abbrev pub full_text : Bool → FullAnswers → List ℕ
full_text true full = answers_object (length full.given.items) (shown_last true full.last)
full_text false full = answers_line (length full.given.items) (shown_last false full.last)

-- they are told where that is asked for, and the answer is that of a pass
abbrev pub are_asked : OpenJudge → Answer → Bool
are_asked judge answer = judge.command.answers && (answer.status == 0)

-- the answer, and behind it those of all moments of the events
pub record TellsAlso (judge : OpenJudge) (answer told : Answer) : Type 0 where
  pub full : FullAnswers
  pub are : AreFullAnswers (view_asked judge) full
  pub text : told.text.items ≡ answer.text.items ++ full_text judge.command.judged.json full
  pub status : told.status ≡ answer.status

-- where they aren't told nothing is right, or memory is refused
abbrev pub IsFullRefused : OpenJudge → Failure → Type 0
IsFullRefused judge failure = IsRefused judge 0 failure ⊎ (failure ≡ Memory)

abbrev pub TellsFullIf : OpenJudge → Answer → Bool → Result Answer Failure → Type 0
TellsFullIf judge answer true outcome = MatchResult outcome (TellsAlso judge answer) (IsFullRefused judge)
TellsFullIf judge answer false outcome = outcome ≡ Ok answer

pub record TellsFull (judge : OpenJudge) (answer : Answer) (outcome : Result Answer Failure) : Type 0 where
  pub tells : TellsFullIf judge answer (are_asked judge answer) outcome
