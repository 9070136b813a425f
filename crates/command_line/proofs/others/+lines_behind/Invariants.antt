use Rattle.std.proofs.Common.{length}
use Rattle.command_line.proofs.others.+lines_behind.Given as goal

abbrev pub decreases-lines_behind : goal.decreases-lines_behind
decreases-lines_behind l = length l.faults.now
