use Rattle.store_trace.proofs.Radix.{cuts_exact}
use Rattle.store_trace.proofs.crash_model.laws.cuts_are_listed.Goals as goal

pub returns-clause-exact : goal.returns-clause-exact
returns-clause-exact c = λ p cut. cuts_exact p cut
