use Rattle.std.proofs.Common.{◌∙◌}
use Rattle.verdict.proofs.Listed.{length_set, number_dropped}
use Rattle.verdict.proofs.branches.line_bytes.LineBytes.clear.Goals as goal

pub loop-line-preserved : goal.loop-line-preserved
loop-line-preserved c = (
  number_dropped c.loop-line.self-inside.by_line.items c.pop.new.self.items c.loop-line.self-inside.lines.items c.in-Some.line c.in-Some.ensures.items c.loop-line.invariant.0,
  length_set c.loop-line.self-inside.by_line.items c.in-Some.line 0 ∙ c.loop-line.invariant.1,
)
