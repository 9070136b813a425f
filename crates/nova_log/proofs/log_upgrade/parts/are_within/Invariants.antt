use Rattle.std.proofs.Common.{◌≡◌, ◌+◌}
use Rattle.nova_log.proofs.Room.{parts_through}
use Rattle.nova_log.proofs.log_upgrade.parts.are_within.Given as goal

abbrev pub invariant-loop-inode : goal.invariant-loop-inode
invariant-loop-inode l = l.left + parts_through l.volume l.inode ≡ l.pages
