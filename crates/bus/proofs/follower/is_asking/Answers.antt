use Rattle.bus.proofs.Following.{asking_decided}
use Rattle.bus.proofs.follower.is_asking.Goals as goal

pub returns-in-Running : goal.returns-in-Running
returns-in-Running c = asking_decided _ _ _ _ c.go_alone.ensures
