use Rattle.line_memory.specs.Lines.{IsMedium}
use Rattle.nova_log.proofs.Writing.{HasBody}
use Rattle.nova_log.proofs.log_upgrade.lines.write_lines.Given as goal

abbrev pub invariant-loop-n : goal.invariant-loop-n
invariant-loop-n l = record { body : HasBody l.volume l.fn.medium l.medium l.n; whole : IsMedium l.medium }
