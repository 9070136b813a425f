use Rattle.std.proofs.Common.{◌≤◌}
use Rattle.durability.proofs.Lates.{AreLostBehind}
use Rattle.durability.specs.Unpersisted.{IsUnpersisted}
use Rattle.durability.proofs.ends.losses_of.Given as goal

abbrev pub invariant-loop-number : goal.invariant-loop-number
invariant-loop-number l = record {
  low : l.number ≤ l.ended.end;
  lost : AreLostBehind l.events l.ended.end (IsUnpersisted l.events l.ended.end l.ended.hart l.ended.begin) l.number l.lost.items;
}

abbrev pub decreases-loop-number : goal.decreases-loop-number
decreases-loop-number l = l.number
