use Rattle.std.proofs.Common.{◌≡◌}
use Rattle.std.specs.Str.Parse.{digits_value}
use Rattle.arguments.proofs.Spans.{if_none, no_end, no_first, no_moments, none_too}
use Rattle.arguments.proofs.moments.moments.Goals as goal

pub returns-in_err-moment-clause-none : goal.returns-in_err-moment-clause-none
returns-in_err-moment-clause-none c =
    if_none c.from_residual.result _ (no_moments c.args.text.now c.in_default.ensures.cases (rw c.as_bytes.ensures.value at c.in_err-moment.ensures))

pub returns-in_err-first-clause-none : goal.returns-in_err-first-clause-none
returns-in_err-first-clause-none c =
    if_none c.from_residual-in_err-first.result _ (no_first c.args.text.now c.in-Some.first c.in-Some.end c.in-Some.ensures.cases
    (rw c.as_bytes-2.ensures.value at c.in_err-first.ensures))

pub returns-clause-none : goal.returns-clause-none
returns-clause-none c =
    let value : c.in_ok-first.first ≡ digits_value 10 c.in-Some.first.now = rw c.as_bytes-2.ensures.value at c.in_ok-first.ensures.1 in
    none_too c.span.result _ _ c.span.ensures.none
    (no_end c.args.text.now c.in-Some.first c.in-Some.end c.in_ok-first.first c.in-Some.ensures.cases value)
