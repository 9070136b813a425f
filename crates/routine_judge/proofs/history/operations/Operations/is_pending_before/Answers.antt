use Rattle.routine_judge.proofs.Marked.{hart_pending, some_told}
use Rattle.routine_judge.proofs.history.operations.Operations.is_pending_before.Goals as goal

pub returns-in-Never : goal.returns-in-Never
returns-in-Never c = λ before a.
    rw c.in-Never.is (some_told before c.args.self.now c.is_empty.result a c.is_empty.ensures)

pub returns-in-BetweenHarts : goal.returns-in-BetweenHarts
returns-in-BetweenHarts c = λ before a.
    rw c.in-BetweenHarts.is
    (hart_pending before c.args.self.now c.args.hart c.has_pending.result a c.has_pending.ensures.ordered c.has_pending.ensures.any)
