use Rattle.elf_file.proofs.executable.one_reading.Goals as goal
use Rattle.elf_file.proofs.OneReading.{no_fault, one_fault, one_program}

pub returns-clause-program : goal.returns-clause-program
returns-clause-program c = one_program

pub returns-clause-no_fault : goal.returns-clause-no_fault
returns-clause-no_fault c = no_fault

pub returns-clause-fault : goal.returns-clause-fault
returns-clause-fault c = one_fault
