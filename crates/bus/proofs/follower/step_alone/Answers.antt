use Rattle.bus.proofs.Following.{step_decided}
use Rattle.bus.proofs.follower.step_alone.Goals as goal

pub returns-in-Running : goal.returns-in-Running
returns-in-Running c = step_decided _ _ _ _ c.go_alone.ensures
