use Rattle.std.proofs.Common.{List, refl, subst, sym}
use Rattle.std.specs.List.{Contains}
use Rattle.std.proofs.lemmas.List.Elements.{Contains-push}
use Rattle.routine_judge.specs.declared.order.sequential_runs.SequentialRun.{SequentialRun}
use Rattle.routine_judge.proofs.order.sequential_runs.SequentialRuns.add.Goals as goal

pub returns-in_ok-push-clause-there : goal.returns-in_ok-push-clause-there
returns-in_ok-push-clause-there c = (
  c.args.note,
  subst (λ (notes : List SequentialRun). Contains notes c.args.note) (sym c.in_ok-push.ensures.items) (Contains-push c.args.self.now.notes.items c.args.note),
  record { word = refl; found = refl },
)

pub returns-else-not-has-clause-there : goal.returns-else-not-has-clause-there
returns-else-not-has-clause-there c =
    let same = c.has.ensures c.if-not-has.false in
    (same.0, subst (λ (notes : List SequentialRun). Contains notes same.0) c.deref.ensures.value same.1, same.2)
