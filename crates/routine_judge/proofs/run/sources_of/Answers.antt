use Rattle.routine_judge.proofs.run.sources_of.Goals as goal

pub returns-in-Atomic-clause-sources : goal.returns-in-Atomic-clause-sources
returns-in-Atomic-clause-sources c = λ medium routine steps noted sound. (rw c.in-Atomic.is at noted, rw c.in-Atomic.is at sound)
