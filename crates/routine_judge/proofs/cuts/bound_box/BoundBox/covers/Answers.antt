use Rattle.routine_judge.proofs.Covering.{covers_of}
use Rattle.routine_judge.proofs.cuts.bound_box.BoundBox.covers.Goals as goal

pub returns : goal.returns
returns c = λ within.
    let i = c.self.inside in
    covers_of i.images i.bound.shown i.bound.cuts c.args.self.now c.args.images.now c.args.bound.now.shown c.args.bound.now.cuts c.self.view_is
    c.if-bound-self.false (c.is_weaker.ensures c.if-not-is_weaker.false) (c.is_within.ensures within)
