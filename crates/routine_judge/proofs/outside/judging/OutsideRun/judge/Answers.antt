use Rattle.std.proofs.Common.{ℕ, List, Option, ap, arith, subst}
use Rattle.crash_image.specs.Totals.{IsImageSum}
use Rattle.crash_image.specs.TraceIndexView.{IndexView}
use Rattle.routine_judge.proofs.OutsideGoing.{verdict_fails, verdict_passes}
use Rattle.routine_judge.specs.OutsideLoops.{IsSettled}
use Rattle.routine_judge.specs.declared.outside.cause.OutsideCause.{OutsideCause}
use Rattle.store_trace.specs.declared.event.Event.{Event}
use Rattle.verdict.specs.declared.moment_verdict.verdict.MomentVerdict.{MomentVerdict}
use Rattle.routine_judge.proofs.outside.judging.OutsideRun.judge.Goals as goal

pub verdict_at-requires : goal.verdict_at-requires
verdict_at-requires g c =
    let view = c.args.self.now in
    let settled = subst (λ (found : Option (ℕ × MomentVerdict OutsideCause)). IsSettled g.A.Answering.gives view.start view.events c.judged_from-from.result
    c.end_at-end.result c.args.answering.now c.first_not_passing.new.answering found) c.in-Some.is c.in_ok-found.ensures.ok in
    settled.failing

pub returns-in_ok-images-in-None-clause-ok : goal.returns-in_ok-images-in-None-clause-ok
returns-in_ok-images-in-None-clause-ok g c =
    let view = c.args.self.now in
    let from = c.judged_from-from.result in
    let end = c.end_at-end.result in
    let most = c.judged_from-from.ensures.most in
    let settled = subst (λ (found : Option (ℕ × MomentVerdict OutsideCause)). IsSettled g.A.Answering.gives view.start view.events from end c.args.answering.now
    c.first_not_passing.new.answering found) c.in-None.is c.in_ok-found.ensures.ok in
    verdict_passes g.A.Answering.gives view.start view.events c.args.first c.args.last from end _ c.in_ok-images-in-None.images c.args.answering.now
    c.first_not_passing.new.answering c.judged_from-from.ensures.from (c.end_at-end.ensures.end view.events c.moments.ensures.count) settled (omega (arith, most))
    (subst (λ (es : List Event). IsImageSum es from end c.in_ok-images-in-None.images) (ap (λ (w : IndexView). w.events) c.self.view_is) c.in_ok-images-in-None.ensures)

pub returns-in-Some-clause-ok : goal.returns-in-Some-clause-ok
returns-in-Some-clause-ok g c =
    let view = c.args.self.now in
    let from = c.judged_from-from.result in
    let end = c.end_at-end.result in
    let settled = subst (λ (found : Option (ℕ × MomentVerdict OutsideCause)). IsSettled g.A.Answering.gives view.start view.events from end c.args.answering.now
    c.first_not_passing.new.answering found) c.in-Some.is c.in_ok-found.ensures.ok in
    verdict_fails g.A.Answering.gives view.start view.events c.args.first c.args.last from end c.in-Some.moment c.in-Some.verdict c.verdict_at.result
    c.args.answering.now c.first_not_passing.new.answering c.judged_from-from.ensures.from (c.end_at-end.ensures.end view.events c.moments.ensures.count) settled
    c.verdict_at.ensures
