use Rattle.trace_file.proofs.JudgedLemmas.{store_allowed, store_of_no_hart, store_of_no_line, store_unfit}
use Rattle.trace_file.proofs.judging.judged_store.Goals as goal

pub returns-in_default : goal.returns-in_default
returns-in_default c = store_unfit c.args.hart c.args.store c.in_default.ensures.none

pub returns-in_default-narrow : goal.returns-in_default-narrow
returns-in_default-narrow c = store_of_no_hart c.args.hart c.args.store c.in-Some.written c.in-Some.ensures.some c.in_default-narrow.ensures.none

pub returns-in_default-narrow-2 : goal.returns-in_default-narrow-2
returns-in_default-narrow-2 c = store_of_no_line c.args.hart c.args.store c.in-Some.written c.in-Some.ensures.some c.in_default-narrow-2.ensures.none

pub returns : goal.returns
returns c =
    store_allowed c.args.hart c.args.store c.in-Some.written c.in-Some-narrow.hart c.in-Some-narrow-2.line
    c.in-Some.ensures.some c.in-Some-narrow.ensures.some c.in-Some-narrow-2.ensures.some
