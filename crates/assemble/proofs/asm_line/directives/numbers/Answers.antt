use Rattle.std.proofs.lemmas.Result.{err_from_is_err_and}
use Rattle.assemble.specs.Steps.{all_seen}
use Rattle.assemble.proofs.NumberLists.{numbers_fail}
use Rattle.assemble.proofs.asm_line.directives.numbers.Goals as goal

pub returns-in_err-values-clause-err : goal.returns-in_err-values-clause-err
returns-in_err-values-clause-err c =
    let p = err_from_is_err_and c.from_residual.result c.from_residual.ensures.1 in
    rw (p.1, p.2) (numbers_fail c.args.width (all_seen c.args.operands.now) _ c.in_err-values.ensures.err)
