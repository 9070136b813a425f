use Rattle.std.proofs.Common.{take}
use Rattle.durability.specs.Mends.{AreForLost}
use Rattle.durability.proofs.mend.mends_of_lost.Given as goal

abbrev pub invariant-loop-one : goal.invariant-loop-one
invariant-loop-one l = AreForLost l.events l.moment (take l.one-index l.lost) l.kept l.mends.items
