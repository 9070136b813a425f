-- What `show` comes to.
use Rattle.std.specs.Prelude.{◌≡◌, ◌⊎◌, ◌<◌, ◌≤◌, ℕ, List, length, Option, Some, None, Result, Err, MatchResult, string_bytes}
use Rattle.arguments.specs.declared.asked.ShowCommand.{ShowCommand}
use Rattle.line_memory.specs.Lines.{line_at}
use Rattle.report.specs.Rows.{line_text}
use Rattle.report.specs.Volumes.{IsVolumeText}
use Rattle.nova_log.specs.Volumes.{volume_of}
use Rattle.nova_log.specs.declared.fault.VolumeFault.{VolumeFault}
use Rattle.nova_log.specs.declared.fault.VolumeFault.TheVariants as volumes
use Rattle.machine.specs.declared.shared_memory.fault.StepFault.TheVariants.{NoSuchLine}
use Rattle.command_line.specs.Failures.{failure_of_volume}
use Rattle.command_line.specs.Reading.{ReadsMedium}
use Rattle.command_line.specs.Steps.{First, Prints, Reads, Step, Still, Tells}
use Rattle.command_line.specs.declared.answer.Answer.{Answer}
use Rattle.command_line.specs.declared.failure.Failure.{Failure}
use Rattle.command_line.specs.declared.failure.Failure.TheVariants.{Refused}
use Rattle.command_line.specs.declared.failure.Refusal.TheVariants as refusals

-- why no volume is shown: memory was refused, or recovery finds this fault
abbrev pub IsRecoveryFault : List (List ℕ) → VolumeFault → Type 0
IsRecoveryFault medium fault = (fault ≡ volumes.Memory) ⊎ (volume_of medium ≡ Err fault)

-- the text of the volume that recovery finds, with status 0, or why there is none
pub record ShowsVolume (medium : List (List ℕ)) (outcome : Result Answer Failure) : Type 0 where
  pub shows : MatchResult outcome (λ answer. IsVolumeText medium answer.text.items × (answer.status ≡ 0))
      (Tells (IsRecoveryFault medium) failure_of_volume)

-- the rows of a line; one past the medium is refused
pub record ShowsLine (medium : List (List ℕ)) (line : ℕ) (outcome : Result Answer Failure) : Type 0 where
  pub within : line < length medium → Prints (line_text line (line_at medium line)) 0 outcome
  pub past : length medium ≤ line → outcome ≡ Err (Refused (refusals.Step NoSuchLine))

-- a line's, where one is asked for, and else the volume's
abbrev pub Shows : List (List ℕ) → Option ℕ → Result Answer Failure → Type 0
Shows medium None = ShowsVolume medium
Shows medium (Some line) = ShowsLine medium line

abbrev pub ShowsFile : {F : Type 0} → Reads F → ShowCommand → Step F Answer
ShowsFile reads command =
    First (ReadsMedium reads (Some (string_bytes command.medium))) (λ medium.
    Still (Shows medium command.line))
