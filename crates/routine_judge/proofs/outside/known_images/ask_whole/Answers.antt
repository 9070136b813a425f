use Rattle.std.proofs.Common.{refl}
use Rattle.image_check.proofs.Reading.{lines_all, lines_more, lines_none}
use Rattle.routine_judge.proofs.outside.known_images.ask_whole.Goals as goal

pub loop-line-init : goal.loop-line-init
loop-line-init c = lines_none c.args.asked.now.items c.args.lines.now

pub loop-line-preserved : goal.loop-line-preserved
loop-line-preserved c =
    lines_more c.args.asked.now.items c.loop-line.asked.items c.push.new.self.items c.args.lines.now c.loop-line.line-index _ c.loop-line-test.true refl
    c.in_ok-push.ensures.items c.loop-line.invariant

pub returns : goal.returns
returns c = lines_all c.args.asked.now.items c.loop-line.asked.items c.args.lines.now c.loop-line.line-index c.loop-line-test.false c.loop-line.invariant
