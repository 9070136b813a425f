use Rattle.std.proofs.Common.{length}
use Rattle.report.proofs.picture.labels.source_word.Given as goal

abbrev pub decreases-loop-word : goal.decreases-loop-word
decreases-loop-word l = length l.rest
