use Rattle.schedule_states.specs.Ending.{IsQuiet}
use Rattle.every_schedule.specs.Following.{Follows}
use Rattle.every_schedule.proofs.follower.Follower.run_all_ahead.Given as goal

abbrev pub invariant-loop-hart : goal.invariant-loop-hart
invariant-loop-hart l = Follows IsQuiet l.initial.self l.self
