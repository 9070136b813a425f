use Rattle.bus.specs.Following.{AllEnd}
use Rattle.bus.proofs.made_again.end_all.Given as goal

abbrev pub invariant-loop-place : goal.invariant-loop-place
invariant-loop-place l = AllEnd l.place l.seats l.followers
