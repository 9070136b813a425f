use Rattle.routine_judge.proofs.Sequencing.{goes_any, goes_on}
use Rattle.routine_judge.proofs.order.sequential.SequentialState.may_go.Goals as goal

pub returns-in-Some : goal.returns-in-Some
returns-in-Some c = λ events is. goes_on events c.args.self.now c.in-Some.pending c.args.hart is c.in-Some.is

pub returns-in-None : goal.returns-in-None
returns-in-None c = λ events is. goes_any events c.args.self.now c.args.hart is c.in-None.is
