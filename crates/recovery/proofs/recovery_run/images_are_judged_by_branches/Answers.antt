use Rattle.recovery.proofs.Imaged.{images_adaptive, images_answered, images_shared}
use Rattle.recovery.proofs.recovery_run.images_are_judged_by_branches.Goals as goal

-- src/lib.rt:83:1
pub returns-clause-adaptive : goal.returns-clause-adaptive
returns-clause-adaptive c = images_adaptive

-- src/lib.rt:83:1
pub returns-clause-shared : goal.returns-clause-shared
returns-clause-shared c = images_shared

-- src/lib.rt:83:1
pub returns-clause-branchwise : goal.returns-clause-branchwise
returns-clause-branchwise c = images_answered
