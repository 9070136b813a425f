use Rattle.trace_file.proofs.LineSets.{rank_missing}
use Rattle.trace_file.proofs.ranks.rank_of.Goals as goal

pub returns-in-Err-clause-none : goal.returns-in-Err-clause-none
returns-in-Err-clause-none c = rank_missing c.args.names.now c.args.line _ c.requires.upward c.in-Err.ensures.position
