use Rattle.plan.proofs.Beginnings.{if_none}
use Rattle.plan.proofs.Wordings.{rename_no_value}
use Rattle.plan.proofs.operation_line.rename.Goals as goal

pub returns-in_err-value-clause-none : goal.returns-in_err-value-clause-none
returns-in_err-value-clause-none c =
    if_none _ _
    (rename_no_value _ _ _ _ _ _ _ c.in_ok-from.ensures.some c.in_ok-to.ensures.some c.in_ok-word.ensures.words c.in_err-value.ensures.none)
