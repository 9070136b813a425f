use Rattle.std.proofs.Common.{List, length, subst}
use Rattle.routine_judge.proofs.LeftBoxes.{floors_below}
use Rattle.store_trace.specs.Cut.{IsCut}
use Rattle.store_trace.specs.declared.crash_model.step.PersistenceStep.{PersistenceStep}
use Rattle.routine_judge.proofs.cuts.left.floors_at.Goals as goal

pub returns-in-Ok-cut_over-clause-below : goal.returns-in-Ok-cut_over-clause-below
returns-in-Ok-cut_over-clause-below c =
    floors_below (length c.args.medium.now) c.args.moment c.args.trace.now.events c.in-Ok-cut_over.floors c.requires.lines
    (subst (λ (p : List PersistenceStep). IsCut p c.in-Ok-cut_over.floors) c.in-Ok.ensures.ok.1 c.in-Ok-cut_over.ensures.bounds)
