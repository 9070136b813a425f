use Rattle.std.proofs.Common.{◌≡◌, ◌++◌, All, true}
use Rattle.atomic_table.specs.Seated.{TableId}
use Rattle.bus.specs.Crews.{AreJoined, BeganView}
use Rattle.bus.proofs.crew.Crew.join_all.Given as goal

abbrev pub invariant-loop-child : goal.invariant-loop-child
invariant-loop-child g l =
    (l.yielded ++ l.child-iterator.rest.items ≡ l.fn.self.children.items)
    × ((table : TableId) → (l.fn.self.ran.is_whole ≡ true → All (λ (b : BeganView). b.place.table ≡ table) l.fn.self.children.items)
    → AreJoined table l.yielded l.fn.self.ran.is_whole l.ran.seats.items l.ran.stops.items l.ran.lowest l.ran.is_whole)
    × (l.ran.mine ≡ l.fn.self.ran.mine)
