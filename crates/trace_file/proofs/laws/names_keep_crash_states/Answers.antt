use Rattle.trace_file.proofs.Renaming.{cuts_by_rank}
use Rattle.trace_file.proofs.laws.names_keep_crash_states.Goals as goal

pub returns-clause-cuts : goal.returns-clause-cuts
returns-clause-cuts c = λ names events up all. cuts_by_rank names events up all
