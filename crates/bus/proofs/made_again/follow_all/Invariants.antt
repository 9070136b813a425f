use Rattle.std.proofs.Common.{reverse, take}
use Rattle.bus.specs.Following.{HaveFollowed}
use Rattle.bus.proofs.made_again.follow_all.Given as goal

abbrev pub invariant-loop-entry : goal.invariant-loop-entry
invariant-loop-entry l = HaveFollowed l.fn.core l.core l.seats l.fn.followers l.followers (reverse (take l.entry-index l.history))
