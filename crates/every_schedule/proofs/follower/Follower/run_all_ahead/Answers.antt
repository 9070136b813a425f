use Rattle.every_schedule.proofs.Asking.{quiet_begun, quiet_twice}
use Rattle.every_schedule.proofs.follower.Follower.run_all_ahead.Goals as goal

pub loop-hart-init : goal.loop-hart-init
loop-hart-init c = quiet_begun c.args.self.now

pub loop-hart-preserved : goal.loop-hart-preserved
loop-hart-preserved c = quiet_twice c.args.self.now c.loop-hart.self c.run_ahead.new.self c.loop-hart.invariant c.in_ok-run_ahead.ensures
