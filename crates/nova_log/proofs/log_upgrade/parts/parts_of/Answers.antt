use Rattle.std.proofs.Common.{length, map}
use Rattle.std.specs.List.{range_with_len}
use Rattle.nova_log.specs.Parts.{further_parts, part}
use Rattle.nova_log.proofs.Making.{joined}
use Rattle.nova_log.proofs.log_upgrade.parts.parts_of.Goals as goal

pub loop-inode-preserved : goal.loop-inode-preserved
loop-inode-preserved c =
    joined (further_parts c.args.volume.now) c.loop-inode.inode (map (λ inode. part inode 0) (range_with_len 0 (length c.args.volume.now)))
    c.loop-inode.parts.items c.push_further_parts.new.parts.items c.loop-inode.invariant c.in_ok-push_further_parts.ensures
