use Rattle.recovery.specs.Answers.{bytes_from}
use Rattle.recovery.proofs.engine.Engine.read.Goals as goal

pub loop-at-init : goal.loop-at-init
unfolding bytes_from
loop-at-init g c = c.in_ok-bytes.ensures.items
