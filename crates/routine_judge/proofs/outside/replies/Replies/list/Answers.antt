use Rattle.std.proofs.Common.{◌∙◌, refl}
use Rattle.routine_judge.proofs.OutsideAgreeing.{listed_all, listed_more}
use Rattle.routine_judge.proofs.outside.replies.Replies.list.Goals as goal

pub loop-line-preserved : goal.loop-line-preserved
loop-line-preserved c = (
  listed_more c.args.self.now.lines.items c.loop-line.self.lines.items c.list_one.new.self.lines.items c.args.lines.now c.loop-line.line-index _
      c.loop-line-test.true refl c.loop-line.invariant.0 c.in_ok-list_one.ensures.lines,
  c.in_ok-list_one.ensures.known ∙ c.loop-line.invariant.1,
)

pub returns-clause-lines : goal.returns-clause-lines
returns-clause-lines c =
    listed_all c.args.self.now.lines.items c.loop-line.self.lines.items c.args.lines.now c.loop-line.line-index c.loop-line-test.false c.loop-line.invariant.0
