use Rattle.crash_image.proofs.Totaling.{map_step}
use Rattle.crash_image.specs.Totals.{cleaned_line}
use Rattle.crash_image.proofs.totals.clean.Goals as goal

pub loop-known-preserved : goal.loop-known-preserved
loop-known-preserved c =
    map_step (cleaned_line c.args.hart c.args.line) c.args.free.now c.loop-known.free c.loop-known.known-index c.clean.new.self _
    c.loop-known-test.true c.loop-known.auto.free c.loop-known.invariant c.clean.ensures
