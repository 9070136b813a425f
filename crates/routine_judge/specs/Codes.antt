-- The codes by which faults are known.
use Rattle.std.specs.Prelude.{ℕ, List, codes}
use Rattle.crash_image.specs.Codes.{image_code}
use Rattle.crash_image.specs.declared.ImageFault.TheVariants as images
use Rattle.image_check.specs.Codes.{operation_code}
use Rattle.image_check.specs.declared.fault.OpFault.TheVariants as operations
use Rattle.routine_judge.specs.declared.history.fault.MarkFault.{MarkFault}
use Rattle.routine_judge.specs.declared.history.fault.MarkFault.TheVariants as marks
use Rattle.routine_judge.specs.declared.fault.JudgeFault.{JudgeFault}
use Rattle.routine_judge.specs.declared.fault.JudgeFault.TheVariants as judges

-- of the marks of a run
abbrev pub mark_code : MarkFault → List ℕ
mark_code marks.BegunTwice = operation_code operations.BegunTwice
mark_code marks.NotPending = operation_code operations.NotPending
mark_code marks.Overlaps = codes "O5"
mark_code marks.NoOperation = codes "O6"
mark_code marks.Memory = image_code images.Memory

-- of a run without a verdict
abbrev pub judge_code : JudgeFault → List ℕ
judge_code (judges.Marks fault) = mark_code fault
judge_code judges.NoSuchMoment = image_code images.NoSuchMoment
judge_code judges.Memory = image_code images.Memory
