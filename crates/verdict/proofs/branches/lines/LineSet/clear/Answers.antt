use Rattle.std.proofs.Common.{false, ◌∙◌}
use Rattle.verdict.proofs.Listed.{flag_dropped, length_set}
use Rattle.verdict.proofs.branches.lines.LineSet.clear.Goals as goal

pub loop-line-preserved : goal.loop-line-preserved
loop-line-preserved c = (
  flag_dropped c.loop-line.self-inside.flags.items c.pop.new.self.items c.loop-line.self-inside.lines.items c.in-Some.line c.in-Some.ensures.items c.loop-line.invariant.0,
  length_set c.loop-line.self-inside.flags.items c.in-Some.line false ∙ c.loop-line.invariant.1,
)
