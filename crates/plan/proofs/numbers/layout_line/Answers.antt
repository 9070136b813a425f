use Rattle.plan.proofs.Beginnings.{if_none, no_layout}
use Rattle.plan.proofs.numbers.layout_line.Goals as goal

pub returns-in_err-count_line-clause-none : goal.returns-in_err-count_line-clause-none
returns-in_err-count_line-clause-none c = if_none _ _ (no_layout _ c.in_err-count_line.ensures.none)
