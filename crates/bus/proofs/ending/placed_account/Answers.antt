use Rattle.std.proofs.lemmas.Result.{IfErr-weaker, IfOk-weaker, err_from_is_err_and}
use Rattle.bus.proofs.Foreign.{refuses_gathering}
use Rattle.bus.proofs.Recorded.{refuses_numbers}
use Rattle.bus.proofs.ending.placed_account.Goals as goal

pub returns-in_err-place_seats-clause-err : goal.returns-in_err-place_seats-clause-err
returns-in_err-place_seats-clause-err c =
    let p = err_from_is_err_and c.from_residual.result c.from_residual.ensures.1 in
    rw (p.1, p.2) (refuses_numbers c.args.core.now c.args.seats.now _ (rw c.harts.ensures.value at c.in_err-place_seats.ensures.err))

pub returns-clause-ok : goal.returns-clause-ok
returns-clause-ok c =
    IfOk-weaker c.account_and_states.result _ _ (λ made accounted. (rw c.harts.ensures.value at c.in_ok-place_seats.ensures.ok, accounted))
    c.account_and_states.ensures.ok

pub returns-clause-err : goal.returns-clause-err
returns-clause-err c =
    IfErr-weaker c.account_and_states.result _ _
    (λ fault refused. refuses_gathering c.args.core.now c.args.seats.now c.place_seats.new.seats fault
    (rw c.harts.ensures.value at c.in_ok-place_seats.ensures.ok) refused) c.account_and_states.ensures.err
