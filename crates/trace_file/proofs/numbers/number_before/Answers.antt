use Rattle.trace_file.proofs.NumeralLemmas.{no_number}
use Rattle.trace_file.proofs.numbers.number_before.Goals as goal

pub returns-in_err-plain_number-clause-none : goal.returns-in_err-plain_number-clause-none
returns-in_err-plain_number-clause-none c =
    rw c.from_residual-in_err-plain_number.ensures (no_number c.args.radix c.args.stop c.args.text.now _ _ c.requires.low c.requires.high c.requires.stop c.in_ok-digits.ensures.some c.in_err-plain_number.ensures.none)
