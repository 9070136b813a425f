use Rattle.std.proofs.Common.{◌≡◌, ◌++◌, length, map}
use Rattle.std.specs.List.{flat_map, range_with_len}
use Rattle.nova_log.specs.Parts.{further_parts, part}
use Rattle.nova_log.proofs.log_upgrade.parts.parts_of.Given as goal

abbrev pub invariant-loop-inode : goal.invariant-loop-inode
invariant-loop-inode l =
    l.parts.items ≡ map (λ inode. part inode 0) (range_with_len 0 (length l.volume)) ++ flat_map (further_parts l.volume) (range_with_len 0 l.inode)
