use Rattle.trace_file.proofs.JudgedLemmas.{fitting, no_multiple, no_offset, no_value, no_width}
use Rattle.trace_file.proofs.judging.fitting.Goals as goal

pub returns-in_err-width-clause-none : goal.returns-in_err-width-clause-none
returns-in_err-width-clause-none c = rw c.from_residual.ensures (λ o w v is_o is_w is_v. no_width o w v c.args.store.width c.in_err-width.ensures.none is_w)

pub returns-in_err-offset-clause-none : goal.returns-in_err-offset-clause-none
returns-in_err-offset-clause-none c =
    rw c.from_residual-in_err-offset.ensures (λ o w v is_o is_w is_v. no_offset o w v c.args.store.offset c.in_err-offset.ensures.none is_o)

pub returns-in_err-value-clause-none : goal.returns-in_err-value-clause-none
returns-in_err-value-clause-none c =
    rw c.from_residual-in_err-value.ensures (λ o w v is_o is_w is_v. no_value o w v c.in_ok-width.width.bytes c.in_ok-width.width.greatest c.args.store.width c.args.store.value
    c.in_ok-width.ensures.some c.in_ok-width.ensures.width.1 c.in_err-value.ensures.none is_w is_v)

pub returns-then-offset-width-eq0-clause-some : goal.returns-then-offset-width-eq0-clause-some
returns-then-offset-width-eq0-clause-some c = λ o w v is_o is_w is_v.
    fitting o w v c.in_ok-width.width.bytes c.in_ok-width.width.greatest c.in_ok-offset.offset c.in_ok-value.value c.args.store.offset c.args.store.width c.args.store.value
    c.in_ok-width.ensures.some c.in_ok-width.ensures.width.0 c.in_ok-width.ensures.width.1 c.in_ok-offset.ensures.some c.in_ok-value.ensures.some c.if-offset-width-eq0.true
    is_o is_w is_v

pub returns-else-offset-width-eq0-clause-none : goal.returns-else-offset-width-eq0-clause-none
returns-else-offset-width-eq0-clause-none c = λ o w v is_o is_w is_v.
    no_multiple o w v c.in_ok-width.width.bytes c.in_ok-offset.offset c.args.store.offset c.args.store.width
    c.in_ok-width.ensures.some c.in_ok-offset.ensures.some c.if-offset-width-eq0.false is_o is_w
