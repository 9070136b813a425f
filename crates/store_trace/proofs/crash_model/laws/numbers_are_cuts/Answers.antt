use Rattle.store_trace.proofs.Lines.{cut_from_within}
use Rattle.store_trace.proofs.crash_model.laws.numbers_are_cuts.Goals as goal

pub returns-clause-cut : goal.returns-clause-cut
returns-clause-cut c = λ p k within. cut_from_within p k within
