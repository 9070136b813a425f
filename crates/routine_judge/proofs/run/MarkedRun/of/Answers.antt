use Rattle.std.proofs.Common.{rules}
use Rattle.routine_judge.proofs.run.MarkedRun.of.Goals as goal

pub invariant_of-result : goal.invariant_of-result
invariant_of-result c = (
  search rules,
  search rules,
  search rules,
  c.in_ok-sources.ensures.sources c.args.medium.now c.args.judgement.recovery.now c.args.judgement.steps c.requires.runs c.requires.sound,
  search rules,
  search rules,
  search rules,
  search rules,
  search rules,
  search rules,
)
