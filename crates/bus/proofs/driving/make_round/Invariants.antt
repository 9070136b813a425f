use Rattle.std.proofs.Common.{◌≡◌}
use Rattle.bus.specs.Driving.{badge}
use Rattle.bus.proofs.driving.make_round.Given as goal

abbrev pub invariant-loop-alone : goal.invariant-loop-alone
invariant-loop-alone g l = (badge l.seat ≡ badge l.fn.seat) × (l.stop ≡ l.fn.stop)
