use Rattle.assemble.proofs.Numbers.{ends_rise, numbers_are}
use Rattle.assemble.proofs.numbering.line_numbers.Goals as goal

pub invariant_of-result : goal.invariant_of-result
invariant_of-result c = (c.in_ok-ends.ensures.few, ends_rise _ _ c.in_ok-ends.ensures.ok)

pub returns-clause-ok : goal.returns-clause-ok
returns-clause-ok c = numbers_are _ _ c.in_ok-ends.ensures.ok
