use Rattle.routine_judge.proofs.Sequencing.{rests_so}
use Rattle.routine_judge.proofs.order.sequential.SequentialState.is_at_rest.Goals as goal

pub returns : goal.returns
returns c = λ events is. rests_so events c.args.self.now c.is_none.result is c.is_none.ensures
