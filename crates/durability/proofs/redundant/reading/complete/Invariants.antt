use Rattle.durability.specs.Completing.{AreCompleted}
use Rattle.durability.proofs.redundant.reading.complete.Given as goal

abbrev pub invariant-loop-place : goal.invariant-loop-place
invariant-loop-place l = record {
  completed : AreCompleted l.events l.at l.hart l.place l.lines l.told l.rises;
}
