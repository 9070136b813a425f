use Rattle.std.proofs.Common.{◌≡◌}
use Rattle.routine_judge.specs.Standing.{IsOrderOf}
use Rattle.routine_judge.proofs.order.so_far.OrderSoFar.reach.Given as goal

abbrev pub invariant-loop-at : goal.invariant-loop-at
invariant-loop-at l = (l.self.count ≡ l.at) × IsOrderOf l.events l.self
