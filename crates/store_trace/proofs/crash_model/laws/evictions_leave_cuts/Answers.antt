use Rattle.store_trace.proofs.Explained.{cuts_without_evictions}
use Rattle.store_trace.proofs.crash_model.laws.evictions_leave_cuts.Goals as goal

pub returns-clause-cut : goal.returns-clause-cut
returns-clause-cut c = λ p cut. cuts_without_evictions p cut
