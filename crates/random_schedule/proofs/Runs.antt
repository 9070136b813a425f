-- Runs of steps that may be made.
use Rattle.std.proofs.Common.{List, [], ◌∷◌, ◌++◌}
use Rattle.random_schedule.specs.Interleaves.{Interleaves}
use Rattle.machine.specs.Run.{Config, RunsTo}
use Rattle.machine.specs.declared.schedule.items.Step.{Step}

pub runs_of : (c d : Config) (steps : List Step) → Interleaves c steps d → RunsTo c steps d
runs_of c d [] run = run
runs_of c d (step ∷ steps) run = (run.0, run.2, runs_of run.0 d steps run.3)

pub run_more : (c d e : Config) (xs ys : List Step) → Interleaves c xs d → Interleaves d ys e → Interleaves c (xs ++ ys) e
run_more c d e [] ys a b = rw (← a) b
run_more c d e (x ∷ xs) ys a b = (a.0, a.1, a.2, run_more a.0 d e xs ys a.3 b)
