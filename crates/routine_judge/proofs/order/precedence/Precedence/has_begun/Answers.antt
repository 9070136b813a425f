use Rattle.routine_judge.proofs.Entering.{found_so}
use Rattle.routine_judge.specs.Order.{operations_in}
use Rattle.routine_judge.proofs.order.precedence.Precedence.has_begun.Goals as goal

pub returns : goal.returns
returns c = λ h. found_so c.entry_of.result (operations_in c.args.self.now) c.args.op c.is_some.result (c.entry_of.ensures h) c.is_some.ensures
