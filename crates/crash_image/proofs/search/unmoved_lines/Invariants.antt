use Rattle.std.proofs.Common.{◌≡◌, ℕ, ◌<◌, [], length}
use Rattle.std.specs.Prelude.{slice_index_or}
use Rattle.line_memory.specs.Lines.{line_at}
use Rattle.crash_image.specs.LeastCut.{IsSought}
use Rattle.crash_image.specs.declared.search.Sought.{Sought}
use Rattle.crash_image.proofs.search.unmoved_lines.Given as goal

abbrev pub invariant-loop-line : goal.invariant-loop-line
invariant-loop-line l =
    (length l.all.items ≡ l.line)
    × ((k : ℕ) (d : Sought) → k < l.line →
    IsSought (line_at l.medium k) (line_at l.wanted k) (slice_index_or l.floors k 0) k 0 [] (slice_index_or l.all.items k d))
