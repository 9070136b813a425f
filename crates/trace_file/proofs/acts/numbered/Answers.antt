use Rattle.trace_file.proofs.ActLemmas.{no_number_behind}
use Rattle.trace_file.proofs.acts.numbered.Goals as goal

pub returns-in_err-number-clause-none : goal.returns-in_err-number-clause-none
returns-in_err-number-clause-none c =
    rw c.from_residual-in_err-number.ensures (no_number_behind c.args.keyword.now c.args.text.now _ c.in_ok-behind.ensures c.in_err-number.ensures.none)
