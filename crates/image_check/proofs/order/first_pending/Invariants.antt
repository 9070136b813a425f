use Rattle.image_check.specs.OrderFaults.{AreSettled}
use Rattle.image_check.proofs.order.first_pending.Given as goal

abbrev pub invariant-loop-place : goal.invariant-loop-place
invariant-loop-place l = AreSettled l.events l.place
