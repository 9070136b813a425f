-- What `check-all` results in.
use Rattle.std.specs.Prelude.{◌≡◌, ◌≤◌, ℕ, false, List, Option, Result, IfErr, IfOk, MatchResult, option_map, string_bytes}
use Rattle.arguments.specs.declared.asked.CheckAllCommand.{CheckAllCommand}
use Rattle.arguments.specs.declared.asked.JudgedProgram.{JudgedProgram}
use Rattle.crash_test.specs.Programs.{IsProgramOf}
use Rattle.crash_test.specs.Told.{IsAsked}
use Rattle.every_schedule.specs.EverySchedule.{AllEndWell, AllPass, AllSurvive, IfPass, IsFoundOf}
use Rattle.every_schedule.specs.declared.outcome.Outcome.{Outcome}
use Rattle.image_check.specs.Codes.{cause_code}
use Rattle.image_check.specs.declared.cause.Cause.{Cause}
use Rattle.image_check.specs.declared.fault.OpFault.{OpFault}
use Rattle.machine.specs.RunValues.{with_room}
use Rattle.machine.specs.declared.recording.setup.Setup.{Setup}
use Rattle.plan.specs.Plans.{PlanView}
use Rattle.plan.specs.declared.operation.Operation.{Operation}
use Rattle.program.specs.Sections.{Sections}
use Rattle.command_line.specs.AllSchedules.{TellsOutcome, Telling, WatchesAll, told_by}
use Rattle.command_line.specs.Reading.{ReadsMedium, ReadsPlan, SaysProgram}
use Rattle.command_line.specs.Steps.{First, Reads, ReadsFile, Step, Still}
use Rattle.command_line.specs.declared.answer.Conclusion.{Conclusion}
use Rattle.command_line.specs.declared.failure.Failure.{Failure}
use Rattle.command_line.specs.declared.failure.Failure.TheVariants as failures
use Rattle.command_line.specs.declared.failure.Refusal.TheVariants.{Operation as WrongMark}
use Rattle.command_line.specs.declared.opened.OpenCheckAll.{OpenCheckAll}

-- the files have been read: what the plan says, the bytes of the program's file, and what every schedule starts from
pub record HasOpened (command : CheckAllCommand) (plan : PlanView) (file : List ℕ) (s : Setup) (check : OpenCheckAll) : Type 0 where
  pub command_is : check.command ≡ command
  pub plan_is : check.plan ≡ plan
  pub file_is : check.file.items ≡ file
  pub setup_is : check.setup ≡ s

pub record OpensAll (command : CheckAllCommand) (plan : PlanView) (file : List ℕ) (program : Sections) (medium : List (List ℕ))
    (outcome : Result OpenCheckAll Failure) : Type 0 where
  pub opens : MatchResult outcome (HasOpened command plan file (with_room program medium command.judged.machine.harts)) (λ failure. ⊥)

abbrev pub OpensCheckAll : {F : Type 0} → Reads F → CheckAllCommand → Step F OpenCheckAll
OpensCheckAll reads command =
    First (ReadsPlan reads (string_bytes command.plan)) (λ plan.
    First (ReadsFile reads (string_bytes command.judged.program)) (λ file.
    First (Still (SaysProgram file)) (λ program.
    First (ReadsMedium reads (option_map string_bytes command.judged.machine.medium)) (λ medium.
    Still (OpensAll command plan file program medium)))))

-- what is known of a program whose files have been read
pub record IsOpen (check : OpenCheckAll) : Type 0 where
  pub few : check.setup.harts ≤ 8
  pub program : IsProgramOf check.file.items check.setup.program

-- What is found of every schedule. Where that is a pass, so it is with each of them, of any length, with evictions anywhere: its marks are right,
-- and whatever a power cut leaves of it, of any machine too, with a cache of any size, recovers to a legal volume; and no hart has trapped or
-- exited with another code than 0, where that is asked for. Where it is a run, `check` finds this fault of it. Memory may be refused.
pub record SearchesAll (judged : JudgedProgram) (plan : List Operation) (s : Setup) (outcome : Result (Outcome Cause OpFault) Failure) : Type 0 where
  pub pass : IfOk outcome (λ found. IfPass found (AllPass plan s))
  pub survives : IfOk outcome (λ found. IfPass found (AllSurvive plan s))
  pub whole : judged.any_end ≡ false → IfOk outcome (λ found. IfPass found (AllEndWell s))
  pub found : IfOk outcome (IsFoundOf plan s)
  pub memory : IfErr outcome (λ failure. failure ≡ failures.Memory)

-- how it is told
abbrev pub by_plan : Telling Cause OpFault
by_plan = told_by IsAsked cause_code WrongMark

-- what the command results in once its files have been read
abbrev pub ChecksAll : {E : Type 0} → (E → Option (List ℕ)) → OpenCheckAll → Step E Conclusion
ChecksAll said check =
    First (WatchesAll said check.command.judged (SearchesAll check.command.judged check.plan.operations check.setup)) (λ outcome.
    Still (TellsOutcome by_plan check.command.judged check.file outcome))
