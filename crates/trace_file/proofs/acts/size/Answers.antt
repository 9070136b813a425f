use Rattle.trace_file.proofs.ActLemmas.{no_value}
use Rattle.trace_file.proofs.acts.size.Goals as goal

pub returns-in_err-value-clause-none : goal.returns-in_err-value-clause-none
returns-in_err-value-clause-none c =
    rw c.from_residual-in_err-value.ensures (no_value c.args.text.now _ _ _ c.in_ok-width.ensures.some c.in_ok-digits.ensures c.in_err-value.ensures.none)
