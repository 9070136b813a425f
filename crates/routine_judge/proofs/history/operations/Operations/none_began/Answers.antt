use Rattle.routine_judge.proofs.Marked.{none_began}
use Rattle.routine_judge.proofs.history.operations.Operations.none_began.Goals as goal

pub returns : goal.returns
returns c = λ before a. let both = none_began before c.args.self.now a in
    (λ t. both.0 (c.is_empty.ensures.0 t), λ e. c.is_empty.ensures.1 (both.1 e))
