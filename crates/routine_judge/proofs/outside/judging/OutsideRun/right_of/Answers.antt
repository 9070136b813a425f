use Rattle.routine_judge.proofs.OutsideMeaning.{two_right}
use Rattle.routine_judge.proofs.outside.judging.OutsideRun.right_of.Goals as goal

pub returns : goal.returns
returns c =
    let view = c.args.self.now in
    let a = c.in-Some.ensures.some in
    let b = c.in-Some-full_reply.ensures.some in
    two_right view.start view.events c.args.replies.now.known.items c.args.first c.args.last c.in-Some.one c.in-Some-full_reply.other c.in_ok-right.right a.0 b.0
    a.1 b.1 (c.in_ok-right.ensures.answers a.0 b.0 a.1.here b.1.here) c.in_ok-right.ensures.last
