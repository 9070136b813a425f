use Rattle.trace_file.proofs.LineLemmas.{entry_read, no_act, no_hart, no_letter}
use Rattle.trace_file.proofs.lines.entry_line.Goals as goal

pub returns-in_err-digits-clause-none : goal.returns-in_err-digits-clause-none
returns-in_err-digits-clause-none c =
    rw c.from_residual-in_err-digits.ensures (no_letter c.args.text.now _ _ c.in_ok-number.ensures.some c.in_err-digits.ensures)

pub returns-in_err-hart-clause-none : goal.returns-in_err-hart-clause-none
returns-in_err-hart-clause-none c =
    rw c.from_residual-in_err-hart.ensures (no_hart c.args.text.now _ _ _ c.in_ok-number.ensures.some c.in_ok-digits.ensures c.in_err-hart.ensures.none)

pub returns-in_err-act-clause-none : goal.returns-in_err-act-clause-none
returns-in_err-act-clause-none c =
    rw c.from_residual-in_err-act.ensures (no_act c.args.text.now _ _ _ _ _ _ _ c.in_ok-number.ensures.some c.in_ok-digits.ensures c.in_ok-hart.ensures.some c.places.ensures
    c.in_err-act.ensures.none)

pub returns-clause-some : goal.returns-clause-some
returns-clause-some c =
    entry_read c.args.text.now _ _ _ _ _ _ _ _ c.in_ok-number.ensures.some c.in_ok-digits.ensures c.in_ok-hart.ensures.some c.places.ensures c.in_ok-act.ensures.some
