use Rattle.std.proofs.Common.{arith}
use Rattle.reservation.proofs.Ended.{one_more, all_ended}
use Rattle.reservation.proofs.end_others.Goals as goal

pub loop-other-preserved : goal.loop-other-preserved
loop-other-preserved c =
    one_more c.loop-other.other c.args.hart c.args.line c.args.lines.now c.loop-other.lines c.end_one.new.lines
    c.loop-other.invariant c.end_one.ensures

pub returns : goal.returns
returns c =
    all_ended c.loop-other.other c.args.hart c.args.line c.args.lines.now c.loop-other.lines (omega arith)
    c.loop-other.invariant
