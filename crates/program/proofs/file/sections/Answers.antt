use Rattle.std.proofs.Common.{arith}
use Rattle.program.proofs.file.sections.Goals as goal
use Rattle.program.proofs.Files.{is_file}

pub returns-clause-ok : goal.returns-clause-ok
returns-clause-ok c =
    is_file c.args.bytes.now c.in_ok-lengths.lengths.text c.in_ok-lengths.lengths.static_data (λ i. omega (arith, c.type_inv.bytes i))
    c.in_ok-lengths.ensures.words c.in_ok-lengths.ensures.text c.in_ok-lengths.ensures.static_data (omega arith)
