use Rattle.std.proofs.Common.{arith}
use Rattle.nova_log.specs.Parts.{part}
use Rattle.nova_log.proofs.Making.{pushed}
use Rattle.nova_log.proofs.log_upgrade.parts.push_first_parts.Goals as goal

pub loop-inode-preserved : goal.loop-inode-preserved
loop-inode-preserved c =
    pushed (λ inode. part inode 0) 0 c.loop-inode.inode c.loop-inode.inode c.args.parts.now.items c.loop-inode.parts.items c.push.new.self.items (omega arith)
    c.loop-inode.invariant c.in_ok-push.ensures.items
