use Rattle.trace_file.proofs.ActLemmas.{no_letter, no_line, no_offset, no_size}
use Rattle.trace_file.proofs.acts.store.Goals as goal

pub returns-in_err-line-clause-none : goal.returns-in_err-line-clause-none
returns-in_err-line-clause-none c =
    rw c.from_residual-in_err-line.ensures (no_line c.args.text.now _ c.in_ok-behind.ensures c.in_err-line.ensures.none)

pub returns-in_err-offset-clause-none : goal.returns-in_err-offset-clause-none
returns-in_err-offset-clause-none c =
    rw c.from_residual-in_err-offset.ensures (no_offset c.args.text.now _ _ _ c.in_ok-behind.ensures c.in_ok-line.ensures.some c.in_err-offset.ensures.none)

pub returns-in_err-digits-clause-none : goal.returns-in_err-digits-clause-none
returns-in_err-digits-clause-none c =
    rw c.from_residual-in_err-digits.ensures (no_letter c.args.text.now _ _ _ _ _ c.in_ok-behind.ensures c.in_ok-line.ensures.some c.in_ok-offset.ensures.some c.in_err-digits.ensures)

pub returns-in_err-width-clause-none : goal.returns-in_err-width-clause-none
returns-in_err-width-clause-none c =
    rw c.from_residual-in_err-width.ensures (no_size c.args.text.now _ _ _ _ _ _ c.in_ok-behind.ensures c.in_ok-line.ensures.some c.in_ok-offset.ensures.some c.in_ok-digits.ensures
    c.in_err-width.ensures.none)
