use Rattle.routine_judge.proofs.Boxing.{one_line_more}
use Rattle.routine_judge.proofs.cuts.image_box.ImageBox.is_within.Goals as goal

pub loop-line-preserved : goal.loop-line-preserved
loop-line-preserved c =
    one_line_more c.args.self.now c.args.other.now c.loop-line.line c.contents.result.now c.contents-in-loop-line.result.now
    c.contents.ensures.value c.contents-in-loop-line.ensures.value (c.are_among.ensures c.if-not-are_among.false) c.loop-line.invariant
