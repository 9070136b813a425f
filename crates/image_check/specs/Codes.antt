-- The codes by which faults are known.
use Rattle.std.specs.Prelude.{ℕ, List, codes}
use Rattle.crash_image.specs.Codes.{image_code}
use Rattle.crash_image.specs.declared.ImageFault.TheVariants as images
use Rattle.nova_log.specs.Codes.{volume_code}
use Rattle.image_check.specs.declared.fault.OpFault.{OpFault}
use Rattle.image_check.specs.declared.fault.OpFault.TheVariants as marks
use Rattle.image_check.specs.declared.fault.CheckFault.{CheckFault}
use Rattle.image_check.specs.declared.fault.CheckFault.TheVariants as checks
use Rattle.image_check.specs.declared.cause.Cause.{Cause}
use Rattle.image_check.specs.declared.cause.Cause.TheVariants as causes

-- of the mark of an operation
abbrev pub operation_code : OpFault → List ℕ
operation_code marks.Unknown = codes "O1"
operation_code marks.BegunTwice = codes "O2"
operation_code marks.NotPending = codes "O3"
operation_code marks.SharesInode = codes "O4"

-- of a run without a verdict
abbrev pub check_code : CheckFault → List ℕ
check_code (checks.Operation fault) = operation_code fault
check_code checks.NoSuchMoment = image_code images.NoSuchMoment
check_code checks.Memory = image_code images.Memory

-- why an image is bad: the code of the fault that recovery finds in it, or `illegal`
abbrev pub cause_code : Cause → List ℕ
cause_code (causes.Fault fault) = volume_code fault
cause_code causes.Illegal = codes "illegal"
