use Rattle.std.specs.Prelude.{take}
use Rattle.schedule_states.specs.Ending.{GoesBy}
use Rattle.every_schedule.specs.Following.{Follows}
use Rattle.every_schedule.proofs.follower.Follower.run_through.Given as goal

abbrev pub invariant-loop-hart : goal.invariant-loop-hart
invariant-loop-hart l = Follows (GoesBy (take l.hart-index l.harts)) l.fn.self l.self
