use Rattle.std.proofs.Common.{refl, ap, ◌∙◌}
use Rattle.std.proofs.lemmas.Result.{err_from_is_err_and}
use Rattle.hart.specs.Effect.{answered}
use Rattle.hart.specs.declared.state.HartState.{HartState}
use Rattle.bus.proofs.Following.{makes_again}
use Rattle.bus.proofs.Foreign.{make_no_answer, make_no_exchange, make_no_request, make_no_steps}
use Rattle.bus.proofs.follower.make_again.Goals as goal

pub returns-in_err-exchange-clause-err : goal.returns-in_err-exchange-clause-err
returns-in_err-exchange-clause-err c =
    let p = err_from_is_err_and c.from_residual.result c.from_residual.ensures.1 in
    rw (p.1, p.2) (make_no_exchange c.args.core.now c.args.seat.now c.args.follower.now c.args.request c.args.reply _ c.in_err-exchange.ensures.err)

pub returns-in_err-go_on-clause-err : goal.returns-in_err-go_on-clause-err
returns-in_err-go_on-clause-err c =
    let p = err_from_is_err_and c.from_residual-in_err-go_on.result c.from_residual-in_err-go_on.ensures.1 in
    rw (p.1, p.2) (make_no_steps c.args.core.now c.args.seat.now c.args.follower.now c.args.request c.args.reply c.in_ok-exchange.exchange _
    c.in_ok-exchange.ensures.there c.in_err-go_on.ensures.err)

pub returns-in_err-instr-clause-err : goal.returns-in_err-instr-clause-err
returns-in_err-instr-clause-err c =
    let p = err_from_is_err_and c.from_residual-in_err-instr.result c.from_residual-in_err-instr.ensures.1 in
    rw (p.1, p.2) (make_no_request c.args.core.now c.args.seat.now c.args.follower.now c.args.request c.args.reply c.in_ok-exchange.exchange
    c.go_on.new.state _ c.in_ok-exchange.ensures.there c.in_ok-go_on.ensures.alone c.in_err-instr.ensures.err)

pub returns-in_err-answer_again-clause-err : goal.returns-in_err-answer_again-clause-err
returns-in_err-answer_again-clause-err c =
    let p = err_from_is_err_and c.from_residual-in_err-answer_again.result c.from_residual-in_err-answer_again.ensures.1 in
    rw (p.1, p.2) (make_no_answer c.args.core.now c.args.seat.now c.args.follower.now c.args.request c.args.reply _
    (rw c.hart.ensures at c.in_err-answer_again.ensures.err))

pub returns-clause-ok : goal.returns-clause-ok
returns-clause-ok c =
    makes_again c.args.core.now c.answer_again.new.core c.args.seat.now c.args.follower.now _ c.args.request c.args.reply c.in_ok-exchange.exchange
    c.go_on.new.state c.in_ok-instr.instr c.in_ok-exchange.ensures.there c.in_ok-exchange.ensures.asked c.in_ok-exchange.ensures.told
    c.in_ok-go_on.ensures.alone c.in_ok-instr.ensures.asks c.in_ok-instr.ensures.spelled (rw c.hart.ensures at c.in_ok-answer_again.ensures.core)
    c.in_ok-answer_again.ensures.text refl
    (c.resume.ensures ∙ ap (λ (s : HartState). answered s c.in_ok-instr.instr c.args.reply) c.in_ok-instr.ensures.same)
    (λ renews. c.renew_after.ensures.renewed renews ∙ c.text.ensures.value) c.renew_after.ensures.kept
