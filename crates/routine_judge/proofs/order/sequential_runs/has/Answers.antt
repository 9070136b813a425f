use Rattle.std.proofs.Common.{sym, subst}
use Rattle.std.specs.List.{Contains}
use Rattle.std.proofs.lemmas.List.Elements.{Contains-get_or}
use Rattle.routine_judge.specs.declared.order.sequential_runs.SequentialRun.{SequentialRun}
use Rattle.routine_judge.proofs.order.sequential_runs.has.Goals as goal

pub returns-then-is_same : goal.returns-then-is_same
returns-then-is_same c = λ t. (
  c.other-item.result,
  subst (λ (x : SequentialRun). Contains c.args.notes.now x) (sym c.other-item.is)
      (Contains-get_or c.args.notes.now c.loop-other.other-index c.other-item.result c.loop-other-test.true),
  c.is_same.ensures.0 c.if-is_same.true,
)
