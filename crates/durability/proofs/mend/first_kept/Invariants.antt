use Rattle.std.proofs.Common.{take}
use Rattle.durability.specs.Mends.{IsKeptBehind}
use Rattle.durability.specs.Numbered.{IsFirstIfAny}
use Rattle.durability.proofs.mend.first_kept.Given as goal

abbrev pub invariant-loop-one : goal.invariant-loop-one
invariant-loop-one l = IsFirstIfAny (IsKeptBehind (take l.one-index l.kept) l.store) l.first
