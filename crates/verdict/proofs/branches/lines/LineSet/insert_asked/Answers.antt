use Rattle.std.proofs.Common.{◌∙◌}
use Rattle.verdict.proofs.Listed.{asked_more}
use Rattle.verdict.proofs.branches.lines.LineSet.insert_asked.Goals as goal

pub loop-question-preserved : goal.loop-question-preserved
loop-question-preserved c = (
  asked_more c.args.self.now c.loop-question.self c.insert.new.self c.args.asked.now c.loop-question.question-index _ c.loop-question-test.true
      c.in_ok-insert.ensures.after c.loop-question.invariant.0,
  c.in_ok-insert.ensures.size ∙ c.loop-question.invariant.1,
)
