-- What the files say that a command reads.
use Rattle.std.specs.Prelude.{◌≡◌, ◌≢◌, ◌⊎◌, ◌%◌, ◌/◌, ◌<◌, ℕ, List, Option, Some, None, Result, MatchResult, length, option_map, string_bytes, unwrap_or}
use Rattle.std.specs.List.{concat}
use Rattle.arguments.specs.declared.asked.MachineOptions.{MachineOptions}
use Rattle.arguments.specs.declared.asked.ScheduledRun.{ScheduledRun}
use Rattle.line_memory.specs.Lines.{IsMedium, zero_lines}
use Rattle.line_memory.specs.declared.MediumFault.{MediumFault}
use Rattle.line_memory.specs.declared.MediumFault.TheVariants as media
use Rattle.program.specs.Sections.{Sections}
use Rattle.plan.specs.Grammar.{BeginsThrough, IsFirstFault, IsPlan}
use Rattle.plan.specs.Plans.{PlanView}
use Rattle.plan.specs.declared.fault.PlanCode.{PlanCode}
use Rattle.plan.specs.declared.fault.PlanCode.TheVariants as plans
use Rattle.plan.specs.declared.fault.PlanFault.{PlanFault}
use Rattle.machine.specs.Grammar.{IsSchedule}
use Rattle.machine.specs.declared.schedule.fault.ScheduleFault.{ScheduleFault}
use Rattle.machine.specs.declared.schedule.fault.ScheduleFault.TheVariants as schedules
use Rattle.machine.specs.declared.schedule.items.Item.{Item}
use Rattle.crash_test.specs.Programs.{IsLoadFault, IsProgramOf}
use Rattle.machine.specs.RunValues.{setup}
use Rattle.machine.specs.declared.recording.setup.Setup.{Setup}
use Rattle.command_line.specs.Failures.{failure_of_medium, failure_of_plan, failure_of_program, failure_of_recovery, failure_of_schedule}
use Rattle.command_line.specs.Steps.{First, Reads, ReadsFile, Step, Still, Tells}
use Rattle.command_line.specs.declared.failure.Failure.{Failure}
use Rattle.command_line.specs.declared.failure.Failure.TheVariants.{Memory}
use Rattle.command_line.specs.declared.reading.ReadRoutine.{ReadRoutine}
use Rattle.command_line.specs.declared.reading.RunFiles.{RunFiles}

-- the program of a file, or why it gives none
pub record SaysProgram (file : List ℕ) (outcome : Result Sections Failure) : Type 0 where
  pub says : MatchResult outcome (IsProgramOf file) (Tells (IsLoadFault file) failure_of_program)

-- the recovery routine of a file, or why it gives none
pub record SaysRecovery (file : List ℕ) (outcome : Result Sections Failure) : Type 0 where
  pub says : MatchResult outcome (IsProgramOf file) (Tells (IsLoadFault file) failure_of_recovery)

-- the same, with the bytes of the file
pub record IsRoutineOf (file : List ℕ) (routine : ReadRoutine) : Type 0 where
  pub file_is : routine.file.items ≡ file
  pub program : IsProgramOf file routine.program

pub record SaysRoutine (file : List ℕ) (outcome : Result ReadRoutine Failure) : Type 0 where
  pub says : MatchResult outcome (IsRoutineOf file) (Tells (IsLoadFault file) failure_of_recovery)

-- the plan of a text, or its first line at fault; memory is wanted at the line of an operation alone, with nothing at fault as far as it
abbrev pub IsPlanFaultAt : List ℕ → ℕ → PlanCode → Type 0
IsPlanFaultAt text line plans.Memory = BeginsThrough text line
IsPlanFaultAt text line code = IsFirstFault text line code

abbrev pub IsPlanFault : List ℕ → PlanFault → Type 0
IsPlanFault text fault = IsPlanFaultAt text fault.line fault.code

pub record SaysPlan (text : List ℕ) (outcome : Result PlanView Failure) : Type 0 where
  pub says : MatchResult outcome (IsPlan text) (Tells (IsPlanFault text) failure_of_plan)

-- the schedule of a text, or that it says none; memory is wanted for a schedule alone
abbrev pub IsScheduleFault : List ℕ → ScheduleFault → Type 0
IsScheduleFault text schedules.Text = (items : List Item) → ¬ (IsSchedule text items)
IsScheduleFault text schedules.Memory = (items : List Item) × IsSchedule text items

pub record SaysSchedule (text : List ℕ) (outcome : Result (List Item) Failure) : Type 0 where
  pub says : MatchResult outcome (IsSchedule text) (Tells (IsScheduleFault text) failure_of_schedule)

-- the medium of these bytes, or that they aren't 512 to 16,384 whole lines; memory is wanted where they are
pub record HasBytes (bytes : List ℕ) (lines : List (List ℕ)) : Type 0 where
  pub all : concat lines ≡ bytes
  pub whole : IsMedium lines

abbrev pub IsNoMedium : List ℕ → Type 0
IsNoMedium bytes = (length bytes % 64 ≢ 0) ⊎ (length bytes / 64 < 512) ⊎ (16384 < length bytes / 64)

abbrev pub IsMediumFault : List ℕ → MediumFault → Type 0
IsMediumFault bytes media.Size = IsNoMedium bytes
IsMediumFault bytes media.Memory = ¬ (IsNoMedium bytes)

pub record SaysMedium (bytes : List ℕ) (outcome : Result (List (List ℕ)) Failure) : Type 0 where
  pub says : MatchResult outcome (HasBytes bytes) (Tells (IsMediumFault bytes) failure_of_medium)

-- where no medium is given: 512 lines of zeros
pub record IsDefaultMedium (outcome : Result (List (List ℕ)) Failure) : Type 0 where
  pub zeros : MatchResult outcome (λ lines. lines ≡ zero_lines 512) (λ failure. failure ≡ Memory)

abbrev pub ReadsProgram : {F : Type 0} → Reads F → List ℕ → Step F Sections
ReadsProgram reads name = First (ReadsFile reads name) (λ file. Still (SaysProgram file))

abbrev pub ReadsRecovery : {F : Type 0} → Reads F → List ℕ → Step F Sections
ReadsRecovery reads name = First (ReadsFile reads name) (λ file. Still (SaysRecovery file))

abbrev pub ReadsRoutine : {F : Type 0} → Reads F → List ℕ → Step F ReadRoutine
ReadsRoutine reads name = First (ReadsFile reads name) (λ file. Still (SaysRoutine file))

abbrev pub ReadsPlan : {F : Type 0} → Reads F → List ℕ → Step F PlanView
ReadsPlan reads name = First (ReadsFile reads name) (λ text. Still (SaysPlan text))

abbrev pub ReadsSchedule : {F : Type 0} → Reads F → List ℕ → Step F (List Item)
ReadsSchedule reads name = First (ReadsFile reads name) (λ text. Still (SaysSchedule text))

-- the medium's file, where one is named
abbrev pub ReadsMedium : {F : Type 0} → Reads F → Option (List ℕ) → Step F (List (List ℕ))
ReadsMedium reads None = Still IsDefaultMedium
ReadsMedium reads (Some name) = First (ReadsFile reads name) (λ bytes. Still (SaysMedium bytes))

-- the files of a run have been read: the bytes of the program's, and what each of them says
pub record HasRead (file : List ℕ) (program : Sections) (schedule : List Item) (medium : List (List ℕ)) (run : RunFiles) : Type 0 where
  pub file_is : run.file.items ≡ file
  pub program_is : run.program ≡ program
  pub schedule_is : run.schedule ≡ schedule
  pub medium_is : run.medium ≡ medium

pub record GivesRun (file : List ℕ) (program : Sections) (schedule : List Item) (medium : List (List ℕ)) (outcome : Result RunFiles Failure) : Type 0 where
  pub gives : MatchResult outcome (HasRead file program schedule medium) (λ failure. ⊥)

abbrev pub ReadsRun : {F : Type 0} → Reads F → ScheduledRun → Step F RunFiles
ReadsRun reads command =
    First (ReadsFile reads (string_bytes command.program)) (λ file.
    First (Still (SaysProgram file)) (λ program.
    First (ReadsSchedule reads (string_bytes command.schedule)) (λ schedule.
    First (ReadsMedium reads (option_map string_bytes command.machine.medium)) (λ medium.
    Still (GivesRun file program schedule medium)))))

-- the machine that the options ask for, at the start of the program over the medium; the cache has a line for each of the
-- medium's where they don't say
abbrev pub machine_of : MachineOptions → Sections → List (List ℕ) → Setup
machine_of options program medium = setup program medium options.harts (unwrap_or options.capacity (length medium))

-- what the run starts from
abbrev pub setup_of : ScheduledRun → RunFiles → Setup
setup_of command run = machine_of command.machine run.program run.medium
