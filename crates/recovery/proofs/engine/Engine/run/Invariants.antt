use Rattle.std.proofs.Common.{false}
use Rattle.recovery.specs.Held.{IsOver}
use Rattle.recovery.specs.Engine.{IsKept, Runs}
use Rattle.recovery.proofs.engine.Engine.run.Given as goal

abbrev pub invariant-loop : goal.invariant-loop
invariant-loop g l = (Runs l.fn.self l.self (g.S.Source.medium l.image) l.counter false)
    × (IsOver l.self.world.held.image (g.S.Source.medium l.image)) × (IsKept l.fn.self l.self)
