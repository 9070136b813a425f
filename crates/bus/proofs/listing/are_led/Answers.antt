use Rattle.std.proofs.Common.{arith}
use Rattle.bus.proofs.Comparing.{led_one, led_whole}
use Rattle.bus.proofs.listing.are_led.Goals as goal

pub loop-place-init : goal.loop-place-init
loop-place-init c = λ h seat less got. absurd (omega (arith, less))

pub loop-place-preserved : goal.loop-place-preserved
loop-place-preserved c =
    led_one c.args.seats.now c.loop-place.place c.index-seats-place.result c.loop-place-test.true c.index-seats-place.is
    (c.is_renewed.ensures c.if-is_renewed.false) c.loop-place.invariant

pub returns : goal.returns
returns c = λ whole. led_whole c.args.seats.now c.loop-place.place (omega arith) c.loop-place.invariant
