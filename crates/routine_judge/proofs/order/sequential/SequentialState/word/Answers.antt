use Rattle.std.proofs.Common.{refl}
use Rattle.routine_judge.proofs.Sequencing.{word_at_rest}
use Rattle.routine_judge.proofs.order.sequential.SequentialState.word.Goals as goal

pub returns-clause-word : goal.returns-clause-word
returns-clause-word c = λ events is rest. word_at_rest events c.args.self.now c.args.self.now.done refl is rest
