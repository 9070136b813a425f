use Rattle.std.proofs.Common.{ap, arith}
use Rattle.std.proofs.lemmas.Result.{err_from_is_err_and}
use Rattle.machine.specs.Steps.{all_steps}
use Rattle.bus.proofs.Comparing.{is_account, listed_none, not_whole_fails, unlisted_fails, zeros_are}
use Rattle.bus.proofs.listing.account_of.Goals as goal

pub list_all-requires-clause-start : goal.list_all-requires-clause-start
list_all-requires-clause-start c =
    listed_none c.args.seats.now _ c.new-runs.result (zeros_are 8) (ap all_steps c.new-runs.ensures.schedule) c.new-runs.ensures.made c.new-runs.ensures.numbers

pub returns-in_err-list_all-clause-err : goal.returns-in_err-list_all-clause-err
returns-in_err-list_all-clause-err c =
    let p = err_from_is_err_and c.from_residual.result c.from_residual.ensures.1 in
    rw (p.1, p.2) (unlisted_fails c.args.core.now c.args.seats.now c.history.result.now _ c.requires.numbered c.history.ensures.value
    c.in_err-list_all.ensures.err)

pub returns-in_err-end_seats-clause-err : goal.returns-in_err-end_seats-clause-err
returns-in_err-end_seats-clause-err c =
    let p = err_from_is_err_and c.from_residual-in_err-end_seats.result c.from_residual-in_err-end_seats.ensures.1 in
    rw (p.1, p.2) (not_whole_fails c.args.core.now c.args.seats.now c.list_all.new.counts c.list_all.new.runs
    c.history.result.now _ c.requires.numbered c.history.ensures.value c.in_ok-list_all.ensures.ok
    (rw (c.text_bytes.ensures.text, c.program.ensures) at c.in_err-end_seats.ensures.err))

pub returns-clause-ok : goal.returns-clause-ok
returns-clause-ok c =
    let most = rw c.harts.ensures.value at c.harts.ensures.limit in
    is_account c.args.core.now c.args.seats.now c.list_all.new.counts c.list_all.new.runs c.end_seats.new.runs c.finish.result.0
    c.finish.result.1.items c.history.result.now c.requires.count most c.requires.numbered
    (omega (arith, c.requires.count, most, c.list_all.auto.counts)) c.history.ensures.value c.in_ok-list_all.ensures.ok
    (rw (c.text_bytes.ensures.text, c.program.ensures) at c.in_ok-end_seats.ensures.ok) (ap all_steps c.finish.ensures.schedule)
    c.finish.ensures.numbers
