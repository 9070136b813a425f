use Rattle.routine_judge.proofs.Marked.{begin_marked}
use Rattle.routine_judge.proofs.history.operations.Operations.begin.Goals as goal

pub returns : goal.returns
returns c = λ before a new.
    begin_marked before c.args.hart c.args.op c.args.self.now _ c.in_ok-insert.ensures.updates c.in_ok-insert-2.ensures.updates new a
