use Rattle.std.proofs.lemmas.Result.{err_from_is_err_and}
use Rattle.bus.proofs.Foreign.{last_fails, middle_fails}
use Rattle.bus.proofs.Replayed.{all_agree, begin_follow}
use Rattle.bus.proofs.made_again.make_steps_again.Goals as goal

pub returns-in_err-follow_all-clause-err : goal.returns-in_err-follow_all-clause-err
returns-in_err-follow_all-clause-err c =
    let p = err_from_is_err_and c.from_residual.result c.from_residual.ensures.1 in
    rw (p.1, p.2) (middle_fails c.args.core.now c.args.fresh.now c.args.seats.now c.args.followers.now c.history.result.now _ c.requires.fresh
    (begin_follow c.args.core.now c.args.fresh.now c.args.seats.now c.args.followers.now c.requires.fresh c.requires.start c.requires.numbered)
    c.history.ensures.value c.history.ensures.replay c.in_err-follow_all.ensures.err)

pub returns-in_err-end_all-clause-err : goal.returns-in_err-end_all-clause-err
returns-in_err-end_all-clause-err c =
    let p = err_from_is_err_and c.from_residual-in_err-end_all.result c.from_residual-in_err-end_all.ensures.1 in
    rw (p.1, p.2) (last_fails c.args.core.now c.args.fresh.now c.follow_all.new.core c.args.seats.now c.args.followers.now c.follow_all.new.followers
    c.history.result.now _ c.requires.fresh
    (begin_follow c.args.core.now c.args.fresh.now c.args.seats.now c.args.followers.now c.requires.fresh c.requires.start c.requires.numbered)
    c.history.ensures.value c.history.ensures.replay c.in_ok-follow_all.ensures.ok c.in_err-end_all.ensures.err)

pub returns-clause-ok : goal.returns-clause-ok
returns-clause-ok c =
    all_agree c.args.core.now c.args.fresh.now c.follow_all.new.core c.args.seats.now c.args.followers.now c.follow_all.new.followers
    c.history.result.now c.requires.count c.requires.numbered c.requires.loaded c.requires.fresh c.requires.start c.follow_all.auto.followers
    c.history.ensures.value c.in_ok-follow_all.ensures.ok c.in_ok-end_all.ensures.ok
