use Rattle.std.proofs.Common.{◌∙◌}
use Rattle.verdict.proofs.Listed.{flags_more}
use Rattle.verdict.proofs.branches.lines.LineSet.insert_all.Goals as goal

pub loop-line-preserved : goal.loop-line-preserved
loop-line-preserved c = (
  flags_more c.args.self.now c.loop-line.self c.insert.new.self c.args.lines.now c.loop-line.line-index c.loop-line-test.true
      c.in_ok-insert.ensures.after c.loop-line.invariant.0,
  c.in_ok-insert.ensures.size ∙ c.loop-line.invariant.1,
)
