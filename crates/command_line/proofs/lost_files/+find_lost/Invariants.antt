use Rattle.std.proofs.Common.{length}
use Rattle.command_line.proofs.lost_files.+find_lost.Given as goal

abbrev pub decreases-find_lost : goal.decreases-find_lost
decreases-find_lost g l = length l.names.now
