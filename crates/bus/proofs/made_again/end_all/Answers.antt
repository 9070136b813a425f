use Rattle.std.proofs.lemmas.Result.{err_from_is_err_and}
use Rattle.bus.proofs.Foreign.{end_fails}
use Rattle.bus.proofs.Replayed.{ended_none, ended_one}
use Rattle.bus.proofs.made_again.end_all.Goals as goal

pub loop-place-init : goal.loop-place-init
loop-place-init c = ended_none c.args.seats.now c.args.followers.now

pub loop-place-preserved : goal.loop-place-preserved
loop-place-preserved c =
    ended_one c.loop-place.place c.args.seats.now c.args.followers.now c.index-seats-place.result c.index-followers-place.result c.requires
    c.loop-place-test.true c.index-seats-place.is c.index-followers-place.is c.loop-place.invariant c.in_ok-end_one.ensures.ends

pub returns-in_err-end_one-clause-err : goal.returns-in_err-end_one-clause-err
returns-in_err-end_one-clause-err c =
    let p = err_from_is_err_and c.from_residual.result c.from_residual.ensures.1 in
    rw (p.1, p.2) (end_fails c.args.seats.now c.args.followers.now c.loop-place.place c.index-seats-place.result
    c.index-followers-place.result _ c.requires c.loop-place-test.true c.index-seats-place.is c.index-followers-place.is
    c.in_err-end_one.ensures.err)
