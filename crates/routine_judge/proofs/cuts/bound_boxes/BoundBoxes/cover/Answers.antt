use Rattle.std.proofs.Common.{◌∙◌, ◌∷◌, ◌++◌, [], ap}
use Rattle.recovery.specs.Closed.{BoundBox}
use Rattle.routine_judge.proofs.Covering.{added_covered, with_none, with_one}
use Rattle.routine_judge.specs.BoundBoxViews.{BoxesView}
use Rattle.routine_judge.proofs.cuts.bound_boxes.BoundBoxes.cover.Goals as goal

pub returns-then-have-clause-grows : goal.returns-then-have-clause-grows
returns-then-have-clause-grows c = with_none c.args.self.now.boxes c.args.bound.now.cuts c.args.images c.args.bound.now.shown

pub returns-clause-covered : goal.returns-clause-covered
returns-clause-covered c =
    let old = c.self.inside.boxes.items in
    added_covered old c.push.new.self.items c.args.bound.now.cuts c.args.images c.args.bound.now.shown c.in_ok-shown_again.field-0 c.in_ok-shown_again.ensures
    (c.in_ok-push.ensures.items ∙ ap (λ (box : BoundBox). old ++ box ∷ []) c.new.ensures)

pub returns-clause-grows : goal.returns-clause-grows
returns-clause-grows c =
    let old = c.self.inside.boxes.items in
    with_one c.args.self.now.boxes c.push.new.self.items c.args.bound.now.cuts c.args.images c.args.bound.now.shown c.in_ok-shown_again.field-0 c.in_ok-shown_again.ensures
    (c.in_ok-push.ensures.items ∙ ap (λ (box : BoundBox). old ++ box ∷ []) c.new.ensures
    ∙ ap (λ (v : BoxesView). v.boxes ++ record { images = c.args.images; shown = c.in_ok-shown_again.field-0; cuts = c.args.bound.now.cuts } ∷ []) c.self.view_is)
