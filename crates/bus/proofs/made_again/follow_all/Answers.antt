use Rattle.std.proofs.lemmas.Result.{err_from_is_err_and}
use Rattle.bus.proofs.Foreign.{follow_fails}
use Rattle.bus.proofs.Replayed.{below_at, followed_none, followed_one, paired_still}
use Rattle.bus.proofs.made_again.follow_all.Goals as goal

pub loop-entry-init : goal.loop-entry-init
loop-entry-init c = followed_none c.args.core.now c.args.seats.now c.args.followers.now c.args.history.now c.requires.start

pub follow-requires-clause-paired : goal.follow-requires-clause-paired
follow-requires-clause-paired c =
    paired_still c.args.core.now c.loop-entry.core c.args.seats.now c.args.followers.now c.loop-entry.followers _
    c.requires.paired c.loop-entry.invariant c.loop-entry.auto.followers

pub follow-requires-clause-below : goal.follow-requires-clause-below
follow-requires-clause-below c =
    below_at c.args.core.now c.loop-entry.core c.args.seats.now c.args.followers.now c.loop-entry.followers _
    c.args.history.now c.loop-entry.entry-index _ c.loop-entry-test.true c.requires.below c.loop-entry.invariant

pub loop-entry-preserved : goal.loop-entry-preserved
loop-entry-preserved c =
    followed_one c.args.core.now c.loop-entry.core c.follow.new.core c.args.seats.now c.args.followers.now c.loop-entry.followers c.follow.new.followers
    c.args.history.now c.loop-entry.entry-index _ c.loop-entry-test.true c.loop-entry.invariant c.in_ok-follow.ensures.ok

pub returns-in_err-follow-clause-err : goal.returns-in_err-follow-clause-err
returns-in_err-follow-clause-err c =
    let p = err_from_is_err_and c.from_residual.result c.from_residual.ensures.1 in
    rw (p.1, p.2) (follow_fails c.args.core.now c.loop-entry.core c.args.seats.now c.args.followers.now c.loop-entry.followers c.args.history.now
    c.loop-entry.entry-index _ _ c.requires.paired.numbered c.loop-entry-test.true
    c.loop-entry.invariant c.in_err-follow.ensures.err)
