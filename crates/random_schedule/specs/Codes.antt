-- The codes by which faults are known.
use Rattle.std.specs.Prelude.{ℕ, List}
use Rattle.machine.specs.Codes.{step_code}
use Rattle.machine.specs.declared.shared_memory.fault.StepFault.TheVariants as steps
use Rattle.random_schedule.specs.declared.fault.InterleaveFault.{InterleaveFault}
use Rattle.random_schedule.specs.declared.fault.InterleaveFault.TheVariants as drawing

-- of an interleaving that isn't drawn
abbrev pub drawing_code : InterleaveFault → List ℕ
drawing_code drawing.TraceFull = step_code steps.TraceFull
drawing_code drawing.Memory = step_code steps.Memory
