-- The codes by which faults are known.
use Rattle.std.specs.Prelude.{ℕ, List, codes}
use Rattle.machine.specs.declared.shared_memory.fault.StepFault.{StepFault}
use Rattle.machine.specs.declared.shared_memory.fault.StepFault.TheVariants as steps
use Rattle.machine.specs.declared.schedule.fault.ScheduleFault.{ScheduleFault}
use Rattle.machine.specs.declared.schedule.fault.ScheduleFault.TheVariants as schedules

-- of a step of a run
abbrev pub step_code : StepFault → List ℕ
step_code steps.NoSuchHart = codes "G1"
step_code steps.NoSuchLine = codes "G2"
step_code steps.TraceFull = codes "G4"
step_code steps.Memory = codes "G5"
step_code steps.OutOfLimits = codes "G6"

-- of a schedule that isn't read or written
abbrev pub schedule_code : ScheduleFault → List ℕ
schedule_code schedules.Text = codes "G3"
schedule_code schedules.Memory = step_code steps.Memory
