use Rattle.std.proofs.Common.{◌≡◌, length, subst, arith}
use Rattle.image_check.specs.OrderFaults.{AreSettled}
use Rattle.image_check.proofs.Settling.{settled_next}
use Rattle.image_check.proofs.order.first_pending.Goals as goal

pub loop-place-preserved : goal.loop-place-preserved
loop-place-preserved c =
    settled_next c.args.events.now c.loop-place.place _ c.loop-place-test.true c.loop-place.invariant (c.begins_pending.ensures c.if-begins_pending.false)

pub returns : goal.returns
returns c =
    let all : c.loop-place.place ≡ length c.args.events.now = omega (arith, c.loop-place-test.false, c.loop-place.invariant.within) in
    subst (AreSettled c.args.events.now) all c.loop-place.invariant
