use Rattle.std.proofs.Common.{◌∙◌, List, ap, subst}
use Rattle.std.proofs.lemmas.Result.{IfOk-weaker}
use Rattle.crash_image.specs.TraceIndexView.{IndexView}
use Rattle.routine_judge.proofs.OutsideMeaning.{either_so_far, itself_so_far}
use Rattle.routine_judge.specs.OutsideJudging.{IsRightSoFar}
use Rattle.routine_judge.specs.Windows.{IsWindow}
use Rattle.routine_judge.specs.declared.history.moments.Window.TheVariants.{Itself, Either}
use Rattle.store_trace.specs.declared.event.Event.{Event}
use Rattle.routine_judge.proofs.outside.judging.OutsideRun.right_at.Goals as goal

pub returns-in-Itself : goal.returns-in-Itself
returns-in-Itself c =
    let view = c.args.self.now in
    let is = subst (λ (es : List Event). IsWindow es c.args.moment Itself) (c.events.ensures.value ∙ ap (λ (w : IndexView). w.events) c.self.view_is) c.in-Itself.ensures in
    IfOk-weaker c.right_of.result _ (IsRightSoFar view.start view.events c.args.replies.now.known.items c.args.moment)
    (λ right two. itself_so_far view.start view.events c.args.replies.now.known.items c.args.moment right is two) c.right_of.ensures

pub returns-in-Either : goal.returns-in-Either
returns-in-Either c =
    let view = c.args.self.now in
    let before = c.in-Either.before in
    let after = c.in-Either.after in
    let is = subst (λ (es : List Event). IsWindow es c.args.moment (Either before after))
    (c.events.ensures.value ∙ ap (λ (w : IndexView). w.events) c.self.view_is) c.in-Either.ensures in
    IfOk-weaker c.right_of-in-Either.result _ (IsRightSoFar view.start view.events c.args.replies.now.known.items c.args.moment)
    (λ right two. either_so_far view.start view.events c.args.replies.now.known.items c.args.moment before after right is two) c.right_of-in-Either.ensures
