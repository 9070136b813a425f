use Rattle.durability.specs.Mends.{NoMark, mark_by}
use Rattle.durability.proofs.mend.first_mark.Given as goal

abbrev pub invariant-loop-at : goal.invariant-loop-at
invariant-loop-at l = NoMark (mark_by l.begins) l.events l.behind l.at
