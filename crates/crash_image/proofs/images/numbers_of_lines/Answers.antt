use Rattle.std.proofs.Common.{ℕ, ◌-◌, arith}
use Rattle.std.proofs.Math.ListN.{length-set}
use Rattle.crash_image.proofs.Imaged.{table_more}
use Rattle.crash_image.proofs.images.numbers_of_lines.Goals as goal

pub loop-at-preserved : goal.loop-at-preserved
loop-at-preserved c = (
  omega (arith, length-set {A = ℕ}, c.loop-at.invariant.0),
  table_more c.args.entries.now c.loop-at.at c.args.lines _ c.loop-at.numbers.items c.loop-at-test.true c.loop-at.auto.at
      (c.requires (c.loop-at.at - 1) _ (omega (arith, c.loop-at-test.true, c.loop-at.auto.at))) c.loop-at.invariant.0 c.loop-at.invariant.1,
)
