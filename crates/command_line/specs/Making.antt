-- What `mkfs` comes to.
use Rattle.std.specs.Prelude.{◌++◌, ℕ, List, Result, MatchResult, codes, decimal, length, string_bytes}
use Rattle.arguments.specs.declared.asked.MakeVolumeCommand.{MakeVolumeCommand}
use Rattle.nova_log.specs.Fresh.{IsFresh}
use Rattle.nova_log.specs.Layouts.{AreCounts}
use Rattle.nova_log.specs.declared.fault.VolumeFault.{VolumeFault}
use Rattle.nova_log.specs.declared.fault.VolumeFault.TheVariants as volumes
use Rattle.plan.specs.Plans.{PlanView}
use Rattle.command_line.specs.Failures.{failure_of_volume}
use Rattle.command_line.specs.Reading.{ReadsPlan}
use Rattle.command_line.specs.Reports.{line_end}
use Rattle.command_line.specs.Steps.{First, Prints, Reads, Step, Still, Tells, Writes}
use Rattle.command_line.specs.Writing.{WritesMedium}
use Rattle.command_line.specs.declared.answer.Answer.{Answer}
use Rattle.command_line.specs.declared.failure.Failure.{Failure}

-- the new volume of a plan, or that no volume has its counts on so many lines
abbrev pub IsNewVolume : PlanView → ℕ → List (List ℕ) → Type 0
IsNewVolume plan lines volume = IsFresh plan.layout plan.inodes plan.pages plan.journals lines volume

abbrev pub IsVolumeFault : PlanView → ℕ → VolumeFault → Type 0
IsVolumeFault plan lines volumes.Counts = ¬ AreCounts plan.inodes plan.pages plan.journals lines
IsVolumeFault plan lines volumes.Memory = Unit {0}
IsVolumeFault plan lines fault = ⊥

pub record MakesVolume (plan : PlanView) (lines : ℕ) (outcome : Result (List (List ℕ)) Failure) : Type 0 where
  pub makes : MatchResult outcome (IsNewVolume plan lines) (Tells (IsVolumeFault plan lines) failure_of_volume)

-- `lines N`
abbrev pub lines_line : List (List ℕ) → List ℕ
lines_line volume = codes "lines " ++ (decimal (length volume) ++ line_end)

abbrev pub MakesFile : {F : Type 0} → Reads F → Writes F → MakeVolumeCommand → Step F Answer
MakesFile reads writes command =
    First (ReadsPlan reads (string_bytes command.plan)) (λ plan.
    First (Still (MakesVolume plan command.lines)) (λ volume.
    First (WritesMedium writes (string_bytes command.medium) volume) (λ _.
    Still (Prints (lines_line volume) 0))))
