use Rattle.std.proofs.Common.{◌≡◌, ◌++◌, ◌-◌, map}
use Rattle.std.specs.List.{range_with_len}
use Rattle.nova_log.specs.Parts.{part}
use Rattle.nova_log.proofs.log_upgrade.parts.push_further_parts.Given as goal

abbrev pub invariant-loop-index : goal.invariant-loop-index
invariant-loop-index l = l.parts.items ≡ l.fn.parts.items ++ map (part l.inode) (range_with_len 1 (l.index - 1))
