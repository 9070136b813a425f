use Rattle.crash_image.proofs.Naming.{AreGiven}
use Rattle.crash_image.proofs.named.renumber.Given as goal

abbrev pub invariant-loop-at : goal.invariant-loop-at
invariant-loop-at l = AreGiven l.lines l.fn.entries l.at l.entries
