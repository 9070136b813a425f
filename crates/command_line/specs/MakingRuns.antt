-- A run that is made of the files that a command reads.
use Rattle.std.specs.Prelude.{◌≡◌, Result, MatchResult, length}
use Rattle.arguments.specs.declared.asked.ScheduledRun.{ScheduledRun}
use Rattle.crash_test.specs.Runs.{FailsToRun, IsRunBy}
use Rattle.machine.specs.declared.recording.setup.Setup.{Setup}
use Rattle.command_line.specs.Failures.{failure_of_run}
use Rattle.command_line.specs.Reading.{ReadsRun, setup_of}
use Rattle.command_line.specs.Steps.{First, Reads, Step, Still, Tells}
use Rattle.command_line.specs.declared.failure.Failure.{Failure}
use Rattle.command_line.specs.declared.made_run.MadeRun.{MadeRun}
use Rattle.command_line.specs.declared.reading.RunFiles.{RunFiles}

-- the run by the files' schedule, beside the program's file
pub record IsMadeOf (s : Setup) (files : RunFiles) (made : MadeRun) : Type 0 where
  pub file_is : made.file ≡ files.file
  pub is_run : IsRunBy s files.schedule made.run

-- that run, or why there is none
pub record MakesRun (s : Setup) (files : RunFiles) (outcome : Result MadeRun Failure) : Type 0 where
  pub makes : MatchResult outcome (IsMadeOf s files) (Tells (FailsToRun s files.schedule) (failure_of_run s.harts (length s.medium)))

abbrev pub OpensRun : {F : Type 0} → Reads F → ScheduledRun → Step F MadeRun
OpensRun reads command =
    First (ReadsRun reads command) (λ files.
    Still (MakesRun (setup_of command files) files))
