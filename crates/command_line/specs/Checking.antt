-- What `check` comes to.
use Rattle.std.specs.Prelude.{◌≡◌, ℕ, List, [], Option, Result, MatchResult, string_bytes}
use Rattle.arguments.specs.Line.{IsJudgedWithin}
use Rattle.arguments.specs.declared.asked.CheckCommand.{CheckCommand}
use Rattle.image_check.specs.Codes.{cause_code}
use Rattle.image_check.specs.Verdicts.{IsRefusal}
use Rattle.crash_test.specs.Told.{IsAsked}
use Rattle.image_check.specs.declared.cause.Cause.{Cause}
use Rattle.verdict.specs.declared.moment_verdict.verdict.Verdict.{Verdict}
use Rattle.plan.specs.Plans.{PlanView}
use Rattle.crash_test.specs.Checking.{HasVerdictOn, IsToldOn}
use Rattle.unfinished.specs.Causes.{numbers_of}
use Rattle.command_line.specs.Failures.{failure_of_check}
use Rattle.command_line.specs.Answered.{PrintsVerdict}
use Rattle.command_line.specs.JudgedEvents.{OpensJudged}
use Rattle.command_line.specs.Reading.{ReadsPlan}
use Rattle.command_line.specs.Progress.{IsToldIf, Progresses, gets_line}
use Rattle.command_line.specs.Reasons.{Explains, IsExplainedOf}
use Rattle.command_line.specs.Steps.{First, Reads, Step, Still, Tells}
use Rattle.command_line.specs.Traces.{HasPlaces, IsOpen as HasTheirLines, events_of, medium_of}
use Rattle.command_line.specs.Verdicts.{failing, first_of, row_asked}
use Rattle.command_line.specs.declared.answer.Answer.{Answer}
use Rattle.command_line.specs.declared.failure.Failure.{Failure}
use Rattle.command_line.specs.declared.opened.OpenCheck.{OpenCheck}
use Rattle.command_line.specs.declared.events.OpenEvents.{OpenEvents}

-- With `--whole` events that are whole are judged alone: a pass then also says that each hart of a run has exited with 0, and that each planned
-- operation has ended.
pub record Opens (command : CheckCommand) (plan : PlanView) (opened : OpenEvents) (outcome : Result OpenCheck Failure) : Type 0 where
  pub opens : MatchResult outcome (λ check. (check.command ≡ command) × (check.plan ≡ plan) × (check.events ≡ opened)) (λ failure. ⊥)

abbrev pub OpensCheck : {F : Type 0} → Reads F → CheckCommand → Step F OpenCheck
OpensCheck reads command =
    First (ReadsPlan reads (string_bytes command.plan)) (λ plan.
    First (OpensJudged reads command.judged.source (numbers_of plan.operations)) (λ opened.
    Still (Opens command plan opened)))

-- what is known of a check whose events are there
pub record IsOpen (check : OpenCheck) : Type 0 where
  pub within : IsJudgedWithin check.command.judged
  pub lines : HasTheirLines check.events
  pub places : HasPlaces check.events

-- the verdict on the moments that are asked for, or why there is none
pub record JudgesOpen (check : OpenCheck) (outcome : Result (Verdict Cause) Failure) : Type 0 where
  pub judges : MatchResult outcome (HasVerdictOn check.plan.operations (medium_of check.events) (events_of check.events) (row_asked check.command.judged))
      (Tells (IsRefusal check.plan.operations (events_of check.events) (first_of check.command.judged.moments)) failure_of_check)

-- how far the check had come was told
abbrev pub TellsProgress : OpenCheck → Option (List ℕ) → Option (List ℕ) → Type 0
TellsProgress check =
    Progresses (IsToldOn gets_line check.plan.operations (medium_of check.events) (events_of check.events) (row_asked check.command.judged) [])

-- the verdict, and what standard error was told on the way
pub record Watches {E : Type 0} (said : E → Option (List ℕ)) (check : OpenCheck) (errors : E) (outcome : Result (Verdict Cause) Failure) (errors' : E) : Type 0 where
  pub judges : JudgesOpen check outcome
  pub told : IsToldIf check.command.judged.progress (TellsProgress check (said errors) (said errors')) errors errors'

-- what a check comes to whose events are there
abbrev pub JudgesCheck : {E : Type 0} → (E → Option (List ℕ)) → OpenCheck → Step E Answer
JudgesCheck said check =
    First (Watches said check) (λ verdict.
    First (Still (Explains (IsExplainedOf IsAsked check.events) (events_of check.events) (failing check.command.judged.why verdict))) (λ why.
    Still (PrintsVerdict cause_code check.command.judged.json check.events verdict why)))
