use Rattle.recovery.proofs.Opened.{part_lies}
use Rattle.recovery.proofs.cuts.part_has_one_run.Goals as goal

pub returns-clause-lies : goal.returns-clause-lies
returns-clause-lies c = λ program steps box image other end full earlier left shown opened inside cut.
    part_lies program steps box image other end full earlier left shown opened inside cut
