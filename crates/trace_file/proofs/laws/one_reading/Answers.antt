use Rattle.trace_file.proofs.OneFault.{one_fault}
use Rattle.trace_file.proofs.OneReading.{no_fault}
use Rattle.trace_file.proofs.laws.one_reading.Goals as goal

pub returns-clause-no_fault : goal.returns-clause-no_fault
returns-clause-no_fault c = λ text entries line broken file fault. no_fault text entries line broken file fault

pub returns-clause-one_fault : goal.returns-clause-one_fault
returns-clause-one_fault c = λ text line other broken another first second. one_fault text line other broken another first second
