use Rattle.std.proofs.Common.{ℕ, ◌<◌, []}
use Rattle.report.specs.SlipNearest.{IsUnknown, edited}
use Rattle.report.proofs.slips.nearest.with_byte_left_out.Given as goal

abbrev pub invariant-loop-place : goal.invariant-loop-place
invariant-loop-place l = (place : ℕ) → place < l.place → IsUnknown (edited l.name place [] 1)
