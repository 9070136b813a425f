use Rattle.std.proofs.Common.{◌≡◌, ◌++◌, map}
use Rattle.std.specs.List.{range_with_len}
use Rattle.nova_log.specs.Parts.{part}
use Rattle.nova_log.proofs.log_upgrade.parts.push_first_parts.Given as goal

abbrev pub invariant-loop-inode : goal.invariant-loop-inode
invariant-loop-inode l = l.parts.items ≡ l.fn.parts.items ++ map (λ inode. part inode 0) (range_with_len 0 l.inode)
