-- What `judge-all` results in.
use Rattle.std.specs.Prelude.{◌≡◌, ◌≤◌, ℕ, false, List, Option, Result, IfErr, IfOk, MatchResult, option_map, string_bytes}
use Rattle.arguments.specs.declared.asked.JudgeAllCommand.{JudgeAllCommand}
use Rattle.arguments.specs.declared.asked.JudgedProgram.{JudgedProgram}
use Rattle.crash_test.specs.Loading.{IsLoaded}
use Rattle.crash_test.specs.Programs.{IsProgramOf}
use Rattle.every_schedule.specs.AllAnswers.{AllAnswer, AllAnswerOnMachines, IsFoundByRoutine, SomeBegins}
use Rattle.every_schedule.specs.EverySchedule.{AllEndWell, IfPass}
use Rattle.every_schedule.specs.Sequential.{program_of}
use Rattle.every_schedule.specs.declared.outcome.Outcome.{Outcome}
use Rattle.machine.specs.RunValues.{with_room}
use Rattle.machine.specs.declared.recording.setup.Setup.{Setup}
use Rattle.program.specs.Sections.{Sections}
use Rattle.routine_judge.specs.Views.{ProgramView}
use Rattle.routine_judge.specs.declared.cause.Cause.{Cause}
use Rattle.routine_judge.specs.declared.history.fault.MarkFault.{MarkFault}
use Rattle.command_line.specs.AllSchedules.{TellsOutcome, Telling, WatchesAll, told_by}
use Rattle.command_line.specs.Judging.{cause_text}
use Rattle.command_line.specs.Reading.{ReadsMedium, ReadsRecovery, SaysProgram}
use Rattle.command_line.specs.Steps.{First, Reads, ReadsFile, Step, Still}
use Rattle.command_line.specs.declared.answer.Conclusion.{Conclusion}
use Rattle.command_line.specs.declared.failure.Failure.{Failure}
use Rattle.command_line.specs.declared.failure.Failure.TheVariants as failures
use Rattle.command_line.specs.declared.failure.Refusal.TheVariants.{Marks}
use Rattle.command_line.specs.declared.opened.OpenJudgeAll.{OpenJudgeAll}

-- the files have been read: the bytes of the program's file, what the recovery routine is, and what every schedule starts from
pub record HasOpened (command : JudgeAllCommand) (file : List ℕ) (recovery : Sections) (s : Setup) (judge : OpenJudgeAll) : Type 0 where
  pub command_is : judge.command ≡ command
  pub file_is : judge.file.items ≡ file
  pub recovery_is : judge.recovery ≡ recovery
  pub setup_is : judge.setup ≡ s

pub record OpensAll (command : JudgeAllCommand) (file : List ℕ) (program recovery : Sections) (medium : List (List ℕ))
    (outcome : Result OpenJudgeAll Failure) : Type 0 where
  pub opens : MatchResult outcome (HasOpened command file recovery (with_room program medium command.judged.machine.harts)) (λ failure. ⊥)

abbrev pub OpensJudgeAll : {F : Type 0} → Reads F → JudgeAllCommand → Step F OpenJudgeAll
OpensJudgeAll reads command =
    First (ReadsFile reads (string_bytes command.judged.program)) (λ file.
    First (Still (SaysProgram file)) (λ program.
    First (ReadsRecovery reads (string_bytes command.recovery)) (λ recovery.
    First (ReadsMedium reads (option_map string_bytes command.judged.machine.medium)) (λ medium.
    Still (OpensAll command file program recovery medium)))))

-- what is known of a program whose files have been read
pub record IsOpen (judge : OpenJudgeAll) : Type 0 where
  pub few : judge.setup.harts ≤ 8
  pub program : IsProgramOf judge.file.items judge.setup.program

-- What is found of every schedule. Where that is a pass, so it is with each of them, of any length, with evictions anywhere: its marks are right,
-- and once an operation has begun, the routine answers rightly on whatever a power cut leaves of it, of any machine too, with a cache of any size;
-- some schedule begins an operation; and no hart has trapped or exited with another code than 0, where that is asked for. Where it is a run,
-- `judge --atomic` finds this fault of it. Memory may be refused.
pub record FindsAll (judged : JudgedProgram) (view : ProgramView) (s : Setup) (outcome : Result (Outcome Cause MarkFault) Failure) : Type 0 where
  pub pass : IfOk outcome (λ found. IfPass found (AllAnswer view × SomeBegins s))
  pub survives : IfOk outcome (λ found. IfPass found (AllAnswerOnMachines view))
  pub whole : judged.any_end ≡ false → IfOk outcome (λ found. IfPass found (AllEndWell s))
  pub found : IfOk outcome (IsFoundByRoutine view s)
  pub memory : IfErr outcome (λ failure. failure ≡ failures.Memory)

-- how it is told
abbrev pub by_routine : Sections → ℕ → Telling Cause MarkFault
by_routine recovery steps = told_by (IsLoaded recovery steps) cause_text Marks

-- what the command results in once its files have been read
abbrev pub JudgesAll : {E : Type 0} → (E → Option (List ℕ)) → OpenJudgeAll → Step E Conclusion
JudgesAll said judge =
    First (WatchesAll said judge.command.judged (FindsAll judge.command.judged (program_of judge.setup judge.recovery judge.command.steps) judge.setup)) (λ outcome.
    Still (TellsOutcome (by_routine judge.recovery judge.command.steps) judge.command.judged judge.file outcome))
