use Rattle.std.proofs.Common.{◌≡◌, false}
use Rattle.bus.specs.Driving.{badge}
use Rattle.bus.proofs.driving.drive_on.Given as goal

abbrev pub invariant-loop : goal.invariant-loop
invariant-loop g l =
    (goal.iterator-loop g).can_next l.iterator' × (goal.iterator-loop g).is_finite l.iterator'
    × (badge l.seat ≡ badge l.fn.seat) × (l.stop.table ≡ l.fn.stop.table) × (l.stop.raised ≡ false)
