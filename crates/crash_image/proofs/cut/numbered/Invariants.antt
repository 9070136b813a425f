use Rattle.crash_image.proofs.Numbering.{IsNumbered}
use Rattle.crash_image.proofs.cut.numbered.Given as goal

abbrev pub invariant-loop-at : goal.invariant-loop-at
invariant-loop-at l = IsNumbered l.bounds l.n l.at l.entries.items l.rest
