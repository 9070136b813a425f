use Rattle.std.proofs.Common.{◌≡◌, ◌<◌, length, take}
use Rattle.std.specs.Prelude.{All}
use Rattle.std.specs.List.{flat_map}
use Rattle.command_line.specs.Replies.{rank_of}
use Rattle.command_line.proofs.replying.ranks_of.Given as goal

abbrev pub invariant-loop-line : goal.invariant-loop-line
invariant-loop-line l = (l.ranks.items ≡ flat_map (rank_of l.names) (take l.line-index l.lines)) × All (λ rank. rank < length l.names) l.ranks.items
