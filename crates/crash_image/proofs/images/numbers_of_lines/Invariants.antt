use Rattle.std.proofs.Common.{◌≡◌, ℕ, ◌<◌, drop, length}
use Rattle.std.specs.Prelude.{slice_index_or}
use Rattle.store_trace.specs.Cut.{number_in}
use Rattle.crash_image.proofs.images.numbers_of_lines.Given as goal

abbrev pub invariant-loop-at : goal.invariant-loop-at
invariant-loop-at l =
    (length l.numbers.items ≡ l.lines)
    × ((m d : ℕ) → m < l.lines → slice_index_or l.numbers.items m d ≡ number_in (drop l.at l.entries) m)
