use Rattle.std.proofs.Common.{rules}
use Rattle.every_schedule.proofs.Asking.{quiet_begun, quiet_more}
use Rattle.every_schedule.proofs.follower.Follower.run_ahead.Goals as goal

pub loop-step-init : goal.loop-step-init
loop-step-init c = quiet_begun c.args.self.now

pub loop-step-preserved : goal.loop-step-preserved
loop-step-preserved c = quiet_more c.args.self.now c.loop-step.self c.step.new.self c.args.hart c.loop-step.invariant c.in_ok-step.ensures (c.is_alone.ensures (search rules))

pub returns-then-not-is_alone : goal.returns-then-not-is_alone
returns-then-not-is_alone c = c.loop-step.invariant

pub returns : goal.returns
returns c = c.loop-step.invariant
