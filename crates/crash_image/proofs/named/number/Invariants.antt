use Rattle.crash_image.proofs.Naming.{IsCounted}
use Rattle.crash_image.proofs.named.number.Given as goal

abbrev pub invariant-loop-at : goal.invariant-loop-at
invariant-loop-at l = IsCounted l.bounds l.entries l.at l.number
