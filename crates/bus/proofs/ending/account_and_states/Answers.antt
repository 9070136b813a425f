use Rattle.std.proofs.lemmas.Result.{err_from_is_err_and}
use Rattle.bus.proofs.Foreign.{memory_is}
use Rattle.bus.proofs.ending.account_and_states.Goals as goal

pub returns-in_err-states-clause-err : goal.returns-in_err-states-clause-err
returns-in_err-states-clause-err c =
    let p = err_from_is_err_and c.from_residual-in_err-states.result c.from_residual-in_err-states.ensures.1 in
    rw (p.1, p.2) (memory_is _ _ c.in_err-states.ensures.err)

pub returns-clause-ok : goal.returns-clause-ok
returns-clause-ok c = record { account = c.in_ok-account.ensures.ok; agree = c.in_ok-check_leading.ensures.ok; states_are = c.in_ok-states.ensures.ok }
