use Rattle.std.proofs.Common.{◌≡◌, ◌+◌, ◌*◌, ◌<◌, ◌≤◌, ℕ, length, get_or}
use Rattle.line_memory.specs.Lines.{line_at}
use Rattle.command_line.specs.ImageFiles.{file_line}
use Rattle.command_line.proofs.image.ranked_medium.Given as goal

abbrev pub invariant-loop-rank : goal.invariant-loop-rank
invariant-loop-rank l = (length l.names ≤ length l.medium) × ((k : ℕ) → k < l.rank → line_at l.medium k ≡ file_line l.bytes (get_or l.names k 0))
    × ((k : ℕ) → k < l.rank → 64 * get_or l.names k 0 + 64 ≤ length l.bytes)
