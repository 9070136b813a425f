use Rattle.std.proofs.Common.{length}
use Rattle.command_line.proofs.cut_reasons.+lines_loaded.Given as goal

abbrev pub decreases-lines_loaded : goal.decreases-lines_loaded
decreases-lines_loaded l = length l.images.now
