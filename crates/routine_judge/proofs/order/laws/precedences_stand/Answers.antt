use Rattle.routine_judge.proofs.Equal.{alike_equal, equal_ordered}
use Rattle.routine_judge.proofs.Preceding.{other_operations}
use Rattle.routine_judge.specs.Order.{operations_in}
use Rattle.routine_judge.proofs.order.laws.precedences_stand.Goals as goal

pub returns-clause-kept : goal.returns-clause-kept
returns-clause-kept c = λ events event precedence begins ends h. other_operations events event (operations_in precedence) begins ends h

pub returns-clause-equal : goal.returns-clause-equal
returns-clause-equal c = equal_ordered

pub returns-clause-one : goal.returns-clause-one
returns-clause-one c = alike_equal
