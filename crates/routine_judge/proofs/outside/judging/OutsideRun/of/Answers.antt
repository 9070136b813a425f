use Rattle.std.proofs.Common.{rules}
use Rattle.routine_judge.proofs.outside.judging.OutsideRun.of.Goals as goal

pub invariant_of-result : goal.invariant_of-result
invariant_of-result c = (
  search rules,
  search rules,
  search rules,
  search rules,
  search rules,
  search rules,
  c.requires.sound,
  search rules,
  search rules,
  search rules,
)
