use Rattle.std.proofs.Common.{ℕ, ◌<◌, get_or}
use Rattle.crash_image.specs.declared.totals.FreeLine.{FreeLine}
use Rattle.crash_image.proofs.totals.place_of.Given as goal

abbrev pub invariant-loop-at : goal.invariant-loop-at
invariant-loop-at l = (i : ℕ) (d : FreeLine) → i < l.at → (get_or l.free i d).line < l.line
