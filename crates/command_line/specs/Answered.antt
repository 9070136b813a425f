-- What is printed of a verdict on events.
use Rattle.std.specs.Prelude.{◌≡◌, ◌++◌, ℕ, Bool, List, Option, Result, MatchResult}
use Rattle.crash_test.specs.declared.losses.ExplainedImage.{ExplainedImage}
use Rattle.verdict.specs.declared.moment_verdict.verdict.Verdict.{Verdict}
use Rattle.command_line.specs.Reasons.{IsToldWhy}
use Rattle.command_line.specs.Verdicts.{told_verdict, verdict_status}
use Rattle.command_line.specs.declared.answer.Answer.{Answer}
use Rattle.command_line.specs.declared.events.OpenEvents.{OpenEvents}
use Rattle.command_line.specs.declared.failure.Failure.{Failure}
use Rattle.command_line.specs.declared.failure.Failure.TheVariants.{Memory}

-- the verdict, and behind it what is told of an image that is explained, with the verdict's status
pub record IsVerdictAnswer {Cause : Type 0} (cause : Cause → List ℕ) (json : Bool) (opened : OpenEvents) (verdict : Verdict Cause)
    (why : Option ExplainedImage) (answer : Answer) : Type 0 where
  pub reasons : List ℕ
  pub told : IsToldWhy json opened why reasons
  pub text : answer.text.items ≡ told_verdict cause json verdict ++ reasons
  pub status : answer.status ≡ verdict_status verdict

-- that is printed; memory for it may be refused
pub record PrintsVerdict {Cause : Type 0} (cause : Cause → List ℕ) (json : Bool) (opened : OpenEvents) (verdict : Verdict Cause)
    (why : Option ExplainedImage) (outcome : Result Answer Failure) : Type 0 where
  pub prints : MatchResult outcome (IsVerdictAnswer cause json opened verdict why) (λ failure. failure ≡ Memory)
