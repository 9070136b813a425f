use Rattle.std.proofs.lemmas.Result.{IfErr-at_err, IfErr-weaker, IfOk-weaker}
use Rattle.bus.proofs.Recorded.{is_finished, known_of}
use Rattle.bus.proofs.ending.finish_seats.Goals as goal

pub recorded-requires : goal.recorded-requires
recorded-requires c =
    (c.account_on_core-account.new.seats, IfOk-weaker c.account_on_core-account.result _ _ (λ made so. so.1) c.account_on_core-account.ensures.ok)

pub returns-clause-ok : goal.returns-clause-ok
returns-clause-ok c =
    IfOk-weaker c.recorded.result _ _
    (λ recorded made.
    let known = known_of c.account_on_core-account.result _ _ made.0 c.account_on_core-account.ensures.ok in
    is_finished _ c.args.core c.args.seats.now c.account_on_core-account.new.seats recorded known.0.1 known.0.0 (made.1 _ known.1)) c.recorded.ensures.ok

pub returns-clause-err : goal.returns-clause-err
returns-clause-err c =
    IfErr-weaker c.recorded.result _ _ (λ fault is. IfErr-at_err _ is c.account_on_core-account.ensures.err) c.recorded.ensures.err
