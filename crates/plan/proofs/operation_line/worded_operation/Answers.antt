use Rattle.plan.proofs.Beginnings.{if_none}
use Rattle.plan.proofs.Wordings.{no_number}
use Rattle.plan.proofs.operation_line.worded_operation.Goals as goal

pub returns-in_err-number-clause-none : goal.returns-in_err-number-clause-none
returns-in_err-number-clause-none c = if_none _ _ (no_number _ _ c.in_ok-rest.ensures.some c.in_err-number.ensures.none)
