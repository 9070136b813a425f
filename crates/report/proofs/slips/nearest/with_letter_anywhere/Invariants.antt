use Rattle.std.proofs.Common.{ℕ, ◌<◌}
use Rattle.report.specs.SlipNearest.{IsFarThere}
use Rattle.report.proofs.slips.nearest.with_letter_anywhere.Given as goal

abbrev pub invariant-loop-place : goal.invariant-loop-place
invariant-loop-place l = (place : ℕ) → place < l.place → IsFarThere l.name place l.removed
