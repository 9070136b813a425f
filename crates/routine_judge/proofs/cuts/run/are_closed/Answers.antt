use Rattle.std.proofs.Common.{ℕ, List, subst}
use Rattle.recovery.specs.Boxes.{IsIn}
use Rattle.routine_judge.proofs.ClosedBoxes.{closed_moment}
use Rattle.routine_judge.specs.Views.{JudgeView}
use Rattle.store_trace.specs.Cut.{IsCutImage}
use Rattle.store_trace.specs.History.{at_moment}
use Rattle.routine_judge.proofs.cuts.run.are_closed.Goals as goal

pub returns-in-Closed-clause-ok : goal.returns-in-Closed-clause-ok
returns-in-Closed-clause-ok c = λ closed source are.
    let view = c.args.run.now in
    let rule = c.args.rule in
    let m = c.args.moment in
    let images = c.in_ok-images.images in
    closed_moment view m rule.most source rule.right.now c.args.routine.now.program rule.steps images c.in_ok-boxes.boxes.boxes c.close_all.new.self.boxes
    c.in_ok-close_all.field-0 c.in-Closed.is c.requires.program c.requires.steps are
    (subst (λ (v : JudgeView). (image : List (List ℕ)) → IsCutImage v.start (at_moment v.events m) image → IsIn images image) c.run.view_is c.in_ok-images.ensures.all)
    c.in_ok-boxes.ensures.boxes c.in_ok-close_all.ensures.grows c.in_ok-close_all.ensures.ok
