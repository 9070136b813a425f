use Rattle.program.proofs.object.one_reading.Goals as goal
use Rattle.program.proofs.Files.{no_fault, one_object}

pub returns-clause-object : goal.returns-clause-object
returns-clause-object c = one_object

pub returns-clause-no_fault : goal.returns-clause-no_fault
returns-clause-no_fault c = no_fault
