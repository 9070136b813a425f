-- The faults of a step, by the fault of the part that refused it.
use Rattle.store_trace.specs.declared.trace.TraceFault.{TraceFault}
use Rattle.store_trace.specs.declared.trace.TraceFault.TheVariants as traces
use Rattle.machine.specs.declared.shared_memory.fault.StepFault.{StepFault}
use Rattle.machine.specs.declared.shared_memory.fault.StepFault.TheVariants.{TraceFull, Memory}

abbrev pub step_fault : TraceFault → StepFault
step_fault traces.Full = TraceFull
step_fault traces.Memory = Memory
