use Rattle.crash_image.proofs.Totaling.{map_step}
use Rattle.crash_image.specs.Totals.{fenced_line}
use Rattle.crash_image.proofs.totals.fence_each.Goals as goal

pub loop-known-preserved : goal.loop-known-preserved
loop-known-preserved c =
    map_step (fenced_line c.args.hart) c.args.free.now c.loop-known.free c.loop-known.known-index c.fence.new.self _
    c.loop-known-test.true c.loop-known.auto.free c.loop-known.invariant c.fence.ensures
