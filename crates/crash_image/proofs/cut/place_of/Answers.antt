use Rattle.std.proofs.Common.{arith, ◌+◌, ◌-◌, ◌/◌}
use Rattle.crash_image.proofs.Lined.{before_middle, from_middle}
use Rattle.crash_image.proofs.cut.place_of.Goals as goal

pub loop-low-preserved-then-entries-middle : goal.loop-low-preserved-then-entries-middle
loop-low-preserved-then-entries-middle c = record {
  order = omega arith;
  within = c.loop-low.invariant.within;
  below = before_middle c.args.entries.now c.args.line (c.loop-low.low + (c.loop-low.high - c.loop-low.low) / 2) _ c.requires (omega arith) c.if-entries-middle.true;
  above = c.loop-low.invariant.above;
}

pub loop-low-preserved : goal.loop-low-preserved
loop-low-preserved c = record {
  order = omega arith;
  within = omega arith;
  below = c.loop-low.invariant.below;
  above = from_middle c.args.entries.now c.args.line (c.loop-low.low + (c.loop-low.high - c.loop-low.low) / 2) _ c.requires c.if-entries-middle.false;
}
