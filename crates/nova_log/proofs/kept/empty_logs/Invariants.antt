use Rattle.std.proofs.Common.{◌≡◌, length}
use Rattle.nova_log.proofs.kept.empty_logs.Given as goal

abbrev pub invariant-loop-inode : goal.invariant-loop-inode
invariant-loop-inode l = length l.volume ≡ l._inode
