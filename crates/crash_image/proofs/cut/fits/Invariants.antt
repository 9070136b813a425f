use Rattle.std.proofs.Common.{ℕ, ◌<◌}
use Rattle.std.specs.Prelude.{slice_index_or}
use Rattle.crash_image.specs.Bounds.{Allows}
use Rattle.crash_image.specs.declared.bounds.LineBounds.{LineBounds}
use Rattle.crash_image.proofs.cut.fits.Given as goal

abbrev pub invariant-loop-at : goal.invariant-loop-at
invariant-loop-at l =
    (k : ℕ) (b : LineBounds) (e : ℕ × ℕ) → k < l.at → Allows (slice_index_or l.bounds k b) (slice_index_or l.entries k e)
