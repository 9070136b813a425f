use Rattle.std.proofs.Common.{◌≡◌, ◌++◌, All, map}
use Rattle.bus.specs.Driving.{HasEnded, badge}
use Rattle.bus.proofs.together.seats_of.Given as goal

abbrev pub invariant-loop-seat : goal.invariant-loop-seat
invariant-loop-seat l =
    (l.yielded ++ l.seat-iterator.rest.items ≡ l.fn.loose.items)
    × (map badge l.seats.items ≡ map badge l.yielded)
    × (All HasEnded l.fn.loose.items → All HasEnded l.seats.items)
