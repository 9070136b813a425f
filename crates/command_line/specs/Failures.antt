-- What standard error gets of a command that fails, the status that the program then ends with, and which failure a fault
-- of the layers below comes to.
use Rattle.std.specs.Prelude.{ℕ, List, [], ◌++◌, codes, decimal, string_bytes}
use Rattle.assemble.specs.declared.asm_line.fault.AsmCode.{AsmCode}
use Rattle.assemble.specs.declared.asm_line.fault.AsmCode.TheVariants as asm
use Rattle.assemble.specs.declared.fault.AsmFault.{AsmFault}
use Rattle.crash_image.specs.declared.ImageFault.{ImageFault}
use Rattle.crash_image.specs.declared.ImageFault.TheVariants as images
use Rattle.debugger.specs.declared.fault.DebugFault.{DebugFault}
use Rattle.debugger.specs.declared.fault.DebugFault.TheVariants as sessions
use Rattle.image_check.specs.declared.fault.CheckFault.{CheckFault}
use Rattle.image_check.specs.declared.fault.CheckFault.TheVariants as checks
use Rattle.routine_judge.specs.declared.fault.JudgeFault.{JudgeFault}
use Rattle.routine_judge.specs.declared.fault.JudgeFault.TheVariants as judges
use Rattle.random_schedule.specs.declared.fault.InterleaveFault.{InterleaveFault}
use Rattle.random_schedule.specs.declared.fault.InterleaveFault.TheVariants as drawing
use Rattle.line_memory.specs.declared.MediumFault.{MediumFault}
use Rattle.line_memory.specs.declared.MediumFault.TheVariants as media
use Rattle.nova_log.specs.declared.fault.VolumeFault.{VolumeFault}
use Rattle.nova_log.specs.declared.fault.VolumeFault.TheVariants as volumes
use Rattle.plan.specs.declared.fault.PlanCode.{PlanCode}
use Rattle.plan.specs.declared.fault.PlanCode.TheVariants as plans
use Rattle.plan.specs.declared.fault.PlanFault.{PlanFault}
use Rattle.machine.specs.declared.schedule.fault.ScheduleFault.{ScheduleFault}
use Rattle.machine.specs.declared.schedule.fault.ScheduleFault.TheVariants as schedules
use Rattle.machine.specs.declared.shared_memory.fault.StepFault.{StepFault}
use Rattle.machine.specs.declared.shared_memory.fault.StepFault.TheVariants as steps
use Rattle.crash_test.specs.declared.loading.ProgramFault.{ProgramFault}
use Rattle.crash_test.specs.declared.loading.ProgramFault.TheVariants as programs
use Rattle.crash_test.specs.declared.runs.TogetherFault.{TogetherFault}
use Rattle.crash_test.specs.declared.runs.TogetherFault.TheVariants as together
use Rattle.assemble.specs.Codes.{assembly_code}
use Rattle.bus.specs.Codes.{finish_code}
use Rattle.bus.specs.declared.finish_fault.FinishFault.TheVariants as seats
use Rattle.crash_image.specs.Codes.{image_code}
use Rattle.elf_file.specs.Codes.{elf_code}
use Rattle.image_check.specs.Codes.{operation_code}
use Rattle.machine.specs.Codes.{schedule_code, step_code}
use Rattle.nova_log.specs.Codes.{volume_code}
use Rattle.plan.specs.Codes.{plan_code}
use Rattle.program.specs.Codes.{load_code}
use Rattle.routine_judge.specs.Codes.{mark_code}
use Rattle.trace_file.specs.Codes.{trace_file_code}
use Rattle.trace_file.specs.declared.fault.TraceFileCode.{TraceFileCode}
use Rattle.trace_file.specs.declared.fault.TraceFileCode.TheVariants as traces
use Rattle.trace_file.specs.declared.fault.TraceFileFault.{TraceFileFault}
use Rattle.command_line.specs.Reports.{line_end}
use Rattle.command_line.specs.declared.failure.Failure.{Failure}
use Rattle.command_line.specs.declared.failure.Failure.TheVariants.{Line, Refused, Unfinished, Memory, File}
use Rattle.command_line.specs.declared.failure.Limit.{Limit}
use Rattle.command_line.specs.declared.failure.Limit.TheVariants.{Harts, Lines}
use Rattle.command_line.specs.declared.failure.Refusal.{Refusal}
use Rattle.command_line.specs.declared.failure.Refusal.TheVariants.{Assembly, Object, Plan, ScheduleText, Trace, Medium, Volume, Step, Beyond, Foreign, Moment, Image, Operation, Marks, Reply, NoReply, RecoverySource, RecoveryObject, Elf, RecoveryElf}
use Rattle.command_line.specs.declared.files.FileFault.{FileFault}
use Rattle.command_line.specs.declared.files.FileFault.TheVariants as files

-- the code of a step past a limit
abbrev pub limit_code : Limit → List ℕ
limit_code (Harts harts) = step_code steps.NoSuchHart
limit_code (Lines lines) = step_code steps.NoSuchLine

-- the code of what was refused
abbrev pub refusal_code : Refusal → List ℕ
refusal_code (Assembly fault) = assembly_code fault.code
refusal_code (Object fault) = load_code fault
refusal_code (Elf fault) = elf_code fault
refusal_code (Plan fault) = plan_code fault.code
refusal_code ScheduleText = schedule_code schedules.Text
refusal_code (Trace fault) = trace_file_code fault.code
refusal_code Medium = codes "M3"
refusal_code (Volume fault) = volume_code fault
refusal_code (Step fault) = step_code fault
refusal_code (Beyond limit) = limit_code limit
refusal_code Foreign = finish_code seats.Foreign
refusal_code Moment = image_code images.NoSuchMoment
refusal_code Image = image_code images.NotACut
refusal_code (Operation fault) = operation_code fault
refusal_code (Marks fault) = mark_code fault
refusal_code Reply = codes "V6"
refusal_code NoReply = codes "V7"
refusal_code (RecoverySource fault) = assembly_code fault.code
refusal_code (RecoveryObject fault) = load_code fault
refusal_code (RecoveryElf fault) = elf_code fault

-- ` line N`, of a fault that has a line, and ` recovery`, of one of a recovery routine
abbrev pub refusal_place : Refusal → List ℕ
refusal_place (Assembly fault) = codes " line " ++ decimal fault.line
refusal_place (Plan fault) = codes " line " ++ decimal fault.line
refusal_place (Trace fault) = codes " line " ++ decimal fault.line
refusal_place (RecoverySource fault) = codes " line " ++ (decimal fault.line ++ codes " recovery")
refusal_place (RecoveryObject fault) = codes " recovery"
refusal_place (RecoveryElf fault) = codes " recovery"
refusal_place refusal = []

-- `refused CODE`, and where the fault is
abbrev pub refusal_text : Refusal → List ℕ
refusal_text refusal = codes "refused " ++ (refusal_code refusal ++ refusal_place refusal)

-- the lines of a failure; those of a fault of the command line, and of a run that isn't whole, are given
abbrev pub failure_text : Failure → List ℕ
failure_text (Line text) = string_bytes text
failure_text (Refused refusal) = refusal_text refusal ++ line_end
failure_text (Unfinished text) = string_bytes text
failure_text Memory = codes "memory" ++ line_end
failure_text File = codes "file" ++ line_end

abbrev pub failure_status : Failure → ℕ
failure_status (Line text) = 2
failure_status (Refused refusal) = 2
failure_status (Unfinished text) = 2
failure_status Memory = 4
failure_status File = 5

-- the failure for a file that wasn't read or written
abbrev pub failure_of_file : FileFault → Failure
failure_of_file files.Memory = Memory
failure_of_file fault = File

-- for a source that wasn't assembled
abbrev pub failure_by_code : AsmFault → AsmCode → Failure
failure_by_code fault asm.Memory = Memory
failure_by_code fault code = Refused (Assembly fault)

abbrev pub failure_of_assembly : AsmFault → Failure
failure_of_assembly fault = failure_by_code fault fault.code

-- for a file that gave no program
abbrev pub failure_of_program : ProgramFault → Failure
failure_of_program (programs.Assembly fault) = Refused (Assembly fault)
failure_of_program (programs.Object fault) = Refused (Object fault)
failure_of_program (programs.Elf fault) = Refused (Elf fault)
failure_of_program programs.Memory = Memory

-- for a file that gave no recovery routine
abbrev pub failure_of_recovery : ProgramFault → Failure
failure_of_recovery (programs.Assembly fault) = Refused (RecoverySource fault)
failure_of_recovery (programs.Object fault) = Refused (RecoveryObject fault)
failure_of_recovery (programs.Elf fault) = Refused (RecoveryElf fault)
failure_of_recovery programs.Memory = Memory

-- for a text that gave no plan
abbrev pub failure_by_plan_code : PlanFault → PlanCode → Failure
failure_by_plan_code fault plans.Memory = Memory
failure_by_plan_code fault code = Refused (Plan fault)

abbrev pub failure_of_plan : PlanFault → Failure
failure_of_plan fault = failure_by_plan_code fault fault.code

-- for a text that is no trace file
abbrev pub failure_by_trace_code : TraceFileFault → TraceFileCode → Failure
failure_by_trace_code fault traces.Memory = Memory
failure_by_trace_code fault code = Refused (Trace fault)

abbrev pub failure_of_trace : TraceFileFault → Failure
failure_of_trace fault = failure_by_trace_code fault fault.code

-- for a schedule that wasn't read or written
abbrev pub failure_of_schedule : ScheduleFault → Failure
failure_of_schedule schedules.Text = Refused ScheduleText
failure_of_schedule schedules.Memory = Memory

-- for bytes that gave no medium
abbrev pub failure_of_medium : MediumFault → Failure
failure_of_medium media.Size = Refused Medium
failure_of_medium media.Memory = Memory

-- for a volume that wasn't made
abbrev pub failure_of_volume : VolumeFault → Failure
failure_of_volume volumes.Memory = Memory
failure_of_volume fault = Refused (Volume fault)

-- for a run that stopped
abbrev pub failure_of_step : StepFault → Failure
failure_of_step steps.Memory = Memory
failure_of_step fault = Refused (Step fault)

-- for a run by a schedule, over so many harts and cache lines, that stopped
abbrev pub failure_of_run : ℕ → ℕ → StepFault → Failure
failure_of_run harts lines steps.NoSuchHart = Refused (Beyond (Harts harts))
failure_of_run harts lines steps.NoSuchLine = Refused (Beyond (Lines lines))
failure_of_run harts lines fault = failure_of_step fault

-- for an interleaving that wasn't drawn
abbrev pub failure_of_drawing : InterleaveFault → Failure
failure_of_drawing drawing.TraceFull = Refused (Step steps.TraceFull)
failure_of_drawing drawing.Memory = Memory

-- for harts that haven't run together
abbrev pub failure_of_together : TogetherFault → Failure
failure_of_together (together.Step fault) = failure_of_step fault
failure_of_together together.Foreign = Refused Foreign

-- for a moment or an image that isn't there
abbrev pub failure_of_image : ImageFault → Failure
failure_of_image images.NoSuchMoment = Refused Moment
failure_of_image images.NotACut = Refused Image
failure_of_image images.Memory = Memory

-- for a run without a verdict by a plan
abbrev pub failure_of_check : CheckFault → Failure
failure_of_check (checks.Operation fault) = Refused (Operation fault)
failure_of_check checks.NoSuchMoment = Refused Moment
failure_of_check checks.Memory = Memory

-- for one without a verdict by a recovery routine
abbrev pub failure_of_judge : JudgeFault → Failure
failure_of_judge (judges.Marks fault) = Refused (Marks fault)
failure_of_judge judges.NoSuchMoment = Refused Moment
failure_of_judge judges.Memory = Memory

-- for a session that ended by a fault: want of memory, or a standard stream that failed
abbrev pub failure_of_session : DebugFault → Failure
failure_of_session sessions.Memory = Memory
failure_of_session fault = File
