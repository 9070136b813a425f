use Rattle.std.proofs.Common.{◌≡◌}
use Rattle.recovery.specs.Memory.{memory_of}
use Rattle.recovery.specs.Answers.{bytes_from}
use Rattle.recovery.proofs.engine.Engine.read.Given as goal

abbrev pub invariant-loop-at : goal.invariant-loop-at
invariant-loop-at g l = l.bytes.items ≡ bytes_from (memory_of l.self.world.held (g.S.Source.medium l.image)) l.address l.at
