use Rattle.std.proofs.Common.{length}
use Rattle.command_line.proofs.cut_reasons.+explained_cuts.Given as goal

abbrev pub decreases-explained_cuts : goal.decreases-explained_cuts
decreases-explained_cuts l = length l.links.now
