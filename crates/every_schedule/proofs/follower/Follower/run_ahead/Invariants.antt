use Rattle.schedule_states.specs.Ending.{IsQuiet}
use Rattle.every_schedule.specs.Following.{Follows}
use Rattle.every_schedule.proofs.follower.Follower.run_ahead.Given as goal

abbrev pub invariant-loop-step : goal.invariant-loop-step
invariant-loop-step l = Follows IsQuiet l.initial.self l.self
