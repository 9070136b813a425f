use Rattle.std.proofs.Common.{take}
use Rattle.image_check.specs.OrderFaults.{AreNoted, AreSound}
use Rattle.image_check.proofs.order.check_trace.Given as goal

abbrev pub invariant-loop-at : goal.invariant-loop-at
invariant-loop-at l = AreSound l.plan.operations l.events l.at × AreNoted (take l.at l.events) l.noted
