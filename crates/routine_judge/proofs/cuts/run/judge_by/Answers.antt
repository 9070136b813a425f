use Rattle.std.proofs.Common.{◌∙◌, ℕ, List, ap, refl, subst, sym}
use Rattle.recovery.specs.Boxes.{IsIn}
use Rattle.routine_judge.proofs.Bad.{verdict_named}
use Rattle.routine_judge.proofs.ClosedBoxes.{closed_moment}
use Rattle.routine_judge.specs.CutVerdicts.{IsVerdictBy}
use Rattle.routine_judge.specs.Views.{JudgeView}
use Rattle.routine_judge.specs.declared.cuts.judging.CutCause.{CutCause}
use Rattle.store_trace.specs.Cut.{IsCutImage}
use Rattle.store_trace.specs.History.{at_moment}
use Rattle.verdict.specs.declared.moment_verdict.verdict.MomentVerdict.{MomentVerdict}
use Rattle.routine_judge.proofs.cuts.run.judge_by.Goals as goal

pub returns-in-Closed-clause-ok : goal.returns-in-Closed-clause-ok
returns-in-Closed-clause-ok c = λ source are.
    let view = c.args.run.now in
    let rule = c.args.rule in
    let m = c.args.moment in
    let images = c.in_ok-images.images in
    closed_moment view m rule.most source rule.right.now c.args.routine.now.program rule.steps images c.in_ok-boxes.boxes.boxes c.close_all.new.self.boxes
    c.in_ok-close_all.field-0 c.in-Closed.is c.requires.program c.requires.steps are
    (subst (λ (v : JudgeView). (image : List (List ℕ)) → IsCutImage v.start (at_moment v.events m) image → IsIn images image) c.run.view_is c.in_ok-images.ensures.all)
    c.in_ok-boxes.ensures.boxes c.in_ok-close_all.ensures.grows c.in_ok-close_all.ensures.ok

pub returns-clause-ok : goal.returns-clause-ok
returns-clause-ok c = λ source are.
    let view = c.args.run.now in
    let rule = c.args.rule in
    let m = c.args.moment in
    let routine = c.close_all.new.routine in
    subst (λ (v : MomentVerdict CutCause). IsVerdictBy view source rule.most m v) (sym c.verdict_on.ensures)
    (verdict_named view source rule.right.now rule.most m _ routine.program rule.steps c.in_ok-least-in-Bad.least are (c.in_ok-close_all.ensures.routine.0 ∙ c.requires.program)
    c.requires.steps (ap (λ (v : JudgeView). v.start) c.run.view_is) (ap (λ (v : JudgeView). v.events) c.run.view_is) refl c.in_ok-least-in-Bad.ensures.ok)
