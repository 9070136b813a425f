-- What `upgrade` comes to.
use Rattle.std.specs.Prelude.{◌≡◌, ◌⊎◌, ℕ, List, Some, Result, Ok, Err, MatchResult, string_bytes}
use Rattle.arguments.specs.declared.asked.UpgradeCommand.{UpgradeCommand}
use Rattle.nova_log.specs.Upgraded.{upgraded}
use Rattle.nova_log.specs.declared.fault.VolumeFault.{VolumeFault}
use Rattle.nova_log.specs.declared.fault.VolumeFault.TheVariants as volumes
use Rattle.command_line.specs.Failures.{failure_of_volume}
use Rattle.command_line.specs.Making.{lines_line}
use Rattle.command_line.specs.Reading.{ReadsMedium}
use Rattle.command_line.specs.Steps.{First, Prints, Reads, Step, Still, Tells, Writes}
use Rattle.command_line.specs.Writing.{WritesMedium}
use Rattle.command_line.specs.declared.answer.Answer.{Answer}
use Rattle.command_line.specs.declared.failure.Failure.{Failure}

-- why a medium isn't upgraded: memory was refused, or its first fault
abbrev pub IsUpgradeFault : List (List ℕ) → ℕ → ℕ → VolumeFault → Type 0
IsUpgradeFault medium pages lines fault = (fault ≡ volumes.Memory) ⊎ (upgraded medium pages lines ≡ Err fault)

-- the medium of so many pages and lines with the logs of this one, or why there is none
pub record MakesUpgrade (medium : List (List ℕ)) (pages lines : ℕ) (outcome : Result (List (List ℕ)) Failure) : Type 0 where
  pub makes : MatchResult outcome (λ made. upgraded medium pages lines ≡ Ok made) (Tells (IsUpgradeFault medium pages lines) failure_of_volume)

abbrev pub UpgradesFile : {F : Type 0} → Reads F → Writes F → UpgradeCommand → Step F Answer
UpgradesFile reads writes command =
    First (ReadsMedium reads (Some (string_bytes command.medium))) (λ medium.
    First (Still (MakesUpgrade medium command.pages command.lines)) (λ made.
    First (WritesMedium writes (string_bytes command.upgraded) made) (λ _.
    Still (Prints (lines_line made) 0))))
