use Rattle.std.proofs.Common.{refl}
use Rattle.bus.proofs.Replayed.{followers_more}
use Rattle.bus.proofs.made_again.starting_followers.Goals as goal

pub loop-hart-preserved : goal.loop-hart-preserved
loop-hart-preserved c =
    followers_more c.args.text.now c.loop-hart.hart _ _ _ c.loop-hart.invariant c.in_ok-push_follower.ensures.ok
    (rw (c.start.ensures, c.in_ok-copy.ensures.ok) refl)
