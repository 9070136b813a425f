use Rattle.std.proofs.Common.{◌≡◌, ◌+◌, ◌-◌, arith}
use Rattle.nova_log.specs.Parts.{part}
use Rattle.nova_log.proofs.Making.{pushed}
use Rattle.nova_log.proofs.log_upgrade.parts.push_further_parts.Goals as goal

pub loop-index-preserved : goal.loop-index-preserved
loop-index-preserved c =
    let index = c.loop-index.index in
    let more : index + 1 - 1 ≡ index - 1 + 1 = omega arith in
    rw more (pushed (part c.args.inode) 1 (index - 1) index c.args.parts.now.items c.loop-index.parts.items c.push.new.self.items (omega arith)
    c.loop-index.invariant c.in_ok-push.ensures.items)
