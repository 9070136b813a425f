use Rattle.std.proofs.Common.{◌≡◌, map}
use Rattle.std.specs.List.{range_with_len}
use Rattle.bus.specs.Following.{follower_at_start}
use Rattle.bus.proofs.made_again.starting_followers.Given as goal

abbrev pub invariant-loop-hart : goal.invariant-loop-hart
invariant-loop-hart l = l.followers.items ≡ map (follower_at_start l.text) (range_with_len 0 l.hart)
