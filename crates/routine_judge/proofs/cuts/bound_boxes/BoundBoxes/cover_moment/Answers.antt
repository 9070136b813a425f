use Rattle.std.proofs.Common.{◌∙◌}
use Rattle.recovery.specs.Boxes.{left_of}
use Rattle.routine_judge.proofs.Covering.{wider_covered, with_wider, within_size}
use Rattle.routine_judge.proofs.Gathering.{on_ok}
use Rattle.routine_judge.proofs.LeftBoxes.{length_left}
use Rattle.store_trace.specs.History.{at_moment}
use Rattle.routine_judge.proofs.cuts.bound_boxes.BoundBoxes.cover_moment.Goals as goal

pub cover-requires : goal.cover-requires
cover-requires c =
    let p = at_moment c.args.trace.now.events c.args.moment in
    within_size c.in_ok-left.left (left_of p c.args.part.now) c.in_ok-left.ensures.within ∙ length_left 0 p c.args.part.now ∙ c.requires.lines

pub returns-clause-covered : goal.returns-clause-covered
returns-clause-covered c =
    let p = at_moment c.args.trace.now.events c.args.moment in
    on_ok c.cover.result
    (λ all. wider_covered c.cover.new.self.boxes c.args.bound.now.cuts (left_of p c.args.part.now) c.in_ok-left.left c.args.bound.now.shown c.in_ok-left.ensures.all all)
    c.cover.ensures.covered

pub returns-clause-grows : goal.returns-clause-grows
returns-clause-grows c =
    let p = at_moment c.args.trace.now.events c.args.moment in
    on_ok c.cover.result
    (λ grows. with_wider c.args.self.now.boxes c.cover.new.self.boxes c.args.bound.now.cuts c.in_ok-left.left (left_of p c.args.part.now) c.args.bound.now.shown
    c.in_ok-left.ensures.within grows) c.cover.ensures.grows
