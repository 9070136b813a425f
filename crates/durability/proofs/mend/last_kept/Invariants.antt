use Rattle.std.proofs.Common.{take}
use Rattle.durability.specs.Mends.{IsAmong, IsLastIfAny}
use Rattle.durability.proofs.mend.last_kept.Given as goal

abbrev pub invariant-loop-one : goal.invariant-loop-one
invariant-loop-one l = IsLastIfAny (IsAmong (take l.one-index l.kept)) l.last
