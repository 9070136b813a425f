use Rattle.std.proofs.Common.{◌≡◌, ◌++◌, All}
use Rattle.workers.specs.Stops.{Sitting, fresh}
use Rattle.bus.specs.Crews.{IsCrew}
use Rattle.bus.proofs.crew.Crew.start_all.Given as goal

abbrev pub invariant-loop-seat : goal.invariant-loop-seat
invariant-loop-seat g l =
    (l.yielded ++ l.seat-iterator.rest.items ≡ l.fn.seats.items)
    × All (λ (s : Sitting). s ≡ fresh l.word.table) l.stops.items
    × IsCrew l.word.table l.yielded l.self.children.items l.self.ran.mine l.self.ran.is_whole
    × (l.self.ran.seats.items ≡ l.fn.self.ran.seats.items)
    × (l.self.ran.stops.items ≡ l.fn.self.ran.stops.items)
    × (l.self.ran.lowest ≡ l.fn.self.ran.lowest)
