-- What `answer` comes to.
use Rattle.std.specs.Prelude.{◌≡◌, ℕ, List, Result, Ok, Err, MatchResult, ◌++◌, codes, option_map, string_bytes}
use Rattle.arguments.specs.declared.asked.AnswerCommand.{AnswerCommand}
use Rattle.crash_test.specs.Loading.{IsAnswerOn}
use Rattle.program.specs.Sections.{Sections}
use Rattle.recovery.specs.declared.recovery_run.Cause.{Cause}
use Rattle.report.specs.Answers.{answer_line}
use Rattle.command_line.specs.Judging.{missing_text}
use Rattle.command_line.specs.Reading.{ReadsMedium, ReadsRecovery}
use Rattle.command_line.specs.Reports.{line_end}
use Rattle.command_line.specs.Steps.{First, Reads, Step, Still}
use Rattle.command_line.specs.declared.answer.Answer.{Answer}
use Rattle.command_line.specs.declared.failure.Failure.{Failure}
use Rattle.command_line.specs.declared.failure.Failure.TheVariants.{Memory}

-- the answer, or why there is none
abbrev pub found_text : Result (List ℕ) Cause → List ℕ
found_text (Ok bytes) = answer_line bytes
found_text (Err cause) = codes "no answer: " ++ (missing_text cause ++ line_end)

-- 0 where there is one, else 1
abbrev pub found_status : Result (List ℕ) Cause → ℕ
found_status (Ok bytes) = 0
found_status (Err cause) = 1

-- what the routine's run on the medium comes to is to be printed
pub record PrintsAnswer (recovery : Sections) (medium : List (List ℕ)) (steps : ℕ) (answer : Answer) : Type 0 where
  pub found : Result (List ℕ) Cause
  pub is : IsAnswerOn recovery medium steps found
  pub text : answer.text.items ≡ found_text found
  pub status : answer.status ≡ found_status found

-- memory for it may be refused
pub record AnswersOn (recovery : Sections) (medium : List (List ℕ)) (steps : ℕ) (outcome : Result Answer Failure) : Type 0 where
  pub answers : MatchResult outcome (PrintsAnswer recovery medium steps) (λ failure. failure ≡ Memory)

abbrev pub AnswersFile : {F : Type 0} → Reads F → AnswerCommand → Step F Answer
AnswersFile reads command =
    First (ReadsRecovery reads (string_bytes command.recovery)) (λ recovery.
    First (ReadsMedium reads (option_map string_bytes command.medium)) (λ medium.
    Still (AnswersOn recovery medium command.steps)))
