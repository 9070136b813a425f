use Rattle.std.proofs.Common.{ℕ, ◌-◌, ◌<◌, ◌≤◌, length}
use Rattle.std.specs.Prelude.{slice_index_or}
use Rattle.crash_image.proofs.cut.place_of.Given as goal

abbrev pub invariant-loop-low : goal.invariant-loop-low
invariant-loop-low l =
    record {
      order : l.low ≤ l.high;
      within : l.high ≤ length l.entries;
      below : (i : ℕ) (d : ℕ × ℕ) → i < l.low → (slice_index_or l.entries i d).0 < l.line;
      above : (i : ℕ) (d : ℕ × ℕ) → l.high ≤ i → i < length l.entries → l.line ≤ (slice_index_or l.entries i d).0;
    }

abbrev pub decreases-loop-low : goal.decreases-loop-low
decreases-loop-low l = l.high - l.low
