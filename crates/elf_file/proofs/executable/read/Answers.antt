use Rattle.std.proofs.Common.{ap}
use Rattle.std.proofs.lemmas.Result.{err_from_is_err_and}
use Rattle.std.specs.Prelude.{Err}
use Rattle.elf_file.specs.declared.fault.ElfFault.{ElfFault}
use Rattle.elf_file.proofs.Loading.{has_program}
use Rattle.elf_file.proofs.OneReading.{one_fault}
use Rattle.elf_file.proofs.executable.read.Goals as goal

pub returns-in_err-check-clause-fault : goal.returns-in_err-check-clause-fault
returns-in_err-check-clause-fault c = λ fault first.
    let p = err_from_is_err_and c.from_residual.result c.from_residual.ensures.1 in
    rw (p.1, p.2) (ap (λ (f : ElfFault). Err f) (one_fault c.args.file.now c.in_err-check.field-0.0 fault c.in_err-check.ensures.err first))

pub returns-in_err-load-clause-memory : goal.returns-in_err-load-clause-memory
returns-in_err-load-clause-memory c = λ _. has_program c.args.file.now c.in_ok-check.ensures.header c.in_ok-check.ensures.headers
