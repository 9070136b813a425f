use Rattle.std.proofs.Common.{arith}
use Rattle.crash_image.proofs.Naming.{one_counted}
use Rattle.crash_image.proofs.named.number.Goals as goal

pub numbers-requires : goal.numbers-requires
numbers-requires c =
    let here = c.requires.fits.each c.loop-at.at (record { line = 0; floor = 0; stores = 0 }) (0, 0) c.loop-at-test.true in
    omega (arith, here.1, here.2)

pub loop-at-preserved : goal.loop-at-preserved
loop-at-preserved c =
    rw (c.numbers.ensures.value, c.from.ensures)
    (one_counted c.args.bounds.now c.args.entries.now c.loop-at.at c.loop-at.number _ _ c.loop-at-test.true c.requires.fits c.requires.few c.loop-at.invariant)
