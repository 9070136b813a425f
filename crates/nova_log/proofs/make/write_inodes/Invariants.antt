use Rattle.line_memory.specs.Lines.{IsMedium}
use Rattle.nova_log.specs.Fresh.{HasInodes}
use Rattle.nova_log.proofs.make.write_inodes.Given as goal

abbrev pub invariant-loop-n : goal.invariant-loop-n
invariant-loop-n l = HasInodes l.fn.medium l.medium l.n × IsMedium l.medium
