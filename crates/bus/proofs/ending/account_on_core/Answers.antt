use Rattle.std.proofs.lemmas.Result.{IfErr-weaker, IfOk-weaker}
use Rattle.bus.proofs.Foreign.{refuses_after}
use Rattle.bus.proofs.ending.account_on_core.Goals as goal

pub returns-clause-ok : goal.returns-clause-ok
returns-clause-ok c =
    IfOk-weaker c.account_and_states.result _ _
    (λ made accounted. ((c.in_ok-place_on_core.ensures.placed, c.in_ok-place_on_core.ensures.core), accounted)) c.account_and_states.ensures.ok

pub returns-clause-err : goal.returns-clause-err
returns-clause-err c =
    IfErr-weaker c.account_and_states.result _ _ (λ fault refused. refuses_after _ c.args.harts c.args.seats.now fault refused)
    c.account_and_states.ensures.err
