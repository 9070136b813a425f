use Rattle.std.proofs.lemmas.Result.{IfErr-at_err, IfErr-weaker, IfOk-weaker}
use Rattle.bus.proofs.Recorded.{is_gathered, known_of}
use Rattle.bus.proofs.ending.gather_seats.Goals as goal

pub recorded-requires : goal.recorded-requires
recorded-requires c =
    (c.placed_account-account.new.seats, IfOk-weaker c.placed_account-account.result _ _ (λ made so. so.1) c.placed_account-account.ensures.ok)

pub returns-clause-ok : goal.returns-clause-ok
returns-clause-ok c =
    IfOk-weaker c.recorded.result _ _
    (λ recorded made.
    let known = known_of c.placed_account-account.result _ _ made.0 c.placed_account-account.ensures.ok in
    is_gathered c.args.core c.args.seats.now c.placed_account-account.new.seats recorded known.0 (made.1 _ known.1)) c.recorded.ensures.ok

pub returns-clause-err : goal.returns-clause-err
returns-clause-err c =
    IfErr-weaker c.recorded.result _ _ (λ fault is. IfErr-at_err _ is c.placed_account-account.ensures.err) c.recorded.ensures.err
