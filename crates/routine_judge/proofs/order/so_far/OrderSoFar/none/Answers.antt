use Rattle.std.proofs.Common.{arith}
use Rattle.routine_judge.proofs.order.so_far.OrderSoFar.none.Goals as goal

pub returns-clause-order : goal.returns-clause-order
returns-clause-order c = λ events. record { within = omega arith; ordered = c.none.ensures }
