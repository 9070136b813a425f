-- Why a chain isn't explained, by the fault that was found.
use Rattle.std.proofs.Common.{◌≡◌, inl, inr, refl}
use Rattle.crash_image.specs.declared.ImageFault.{ImageFault}
use Rattle.machine.specs.declared.shared_memory.fault.StepFault.{StepFault}
use Rattle.machine.specs.declared.shared_memory.fault.StepFault.TheVariants as steps
use Rattle.command_line.specs.CutReasons.{IsUnexplained}
use Rattle.command_line.specs.Failures.{failure_of_image, failure_of_step}
use Rattle.command_line.specs.declared.failure.Failure.{Failure}
use Rattle.command_line.specs.declared.failure.Failure.TheVariants.{Memory}

pub step_unexplained : (fault : StepFault) (failure : Failure) → failure ≡ failure_of_step fault → IsUnexplained failure
step_unexplained fault failure is = inl (record { fault = fault; told = is; found = tt })

pub image_unexplained : (fault : ImageFault) (failure : Failure) → failure ≡ failure_of_image fault → IsUnexplained failure
image_unexplained fault failure is = inr (record { fault = fault; told = is; found = tt })

pub memory_unexplained : (failure : Failure) → failure ≡ Memory → IsUnexplained failure
memory_unexplained failure is = step_unexplained steps.Memory failure is
