use Rattle.std.proofs.Common.{◌≡◌, ◌≢◌, ◌∙◌, ◌+◌, [], Bool, true, ℕ, List, ap, arith, length, refl, subst, sym}
use Rattle.std.specs.Prelude.{◌↔◌, IsTrue}
use Rattle.std.proofs.lemmas.List.{length-replicate}
use Rattle.std.proofs.lemmas.Result.{err_from_is_err_and}
use Rattle.crash_image.specs.TraceIndexView.{IndexView}
use Rattle.routine_judge.proofs.Marked.{not_true, true_of}
use Rattle.routine_judge.proofs.OutsideGoing.{IsGoing, going_all, going_answered, going_failed, going_first, going_passed, going_unanswered}
use Rattle.routine_judge.specs.Outside.{HasAsked}
use Rattle.routine_judge.specs.OutsideJudging.{IsJudgedSoFar}
use Rattle.routine_judge.specs.OutsideViews.{ReplyView, WantedView}
use Rattle.routine_judge.specs.declared.outside.cause.OutsideCause.{OutsideCause}
use Rattle.routine_judge.specs.declared.outside.moment.Judged.{Judged}
use Rattle.routine_judge.specs.declared.outside.moment.Judged.TheVariants.{Is}
use Rattle.routine_judge.specs.declared.outside.replies.Replies.{Replies}
use Rattle.store_trace.specs.declared.event.Event.{Event}
use Rattle.verdict.specs.declared.moment_verdict.verdict.MomentVerdict.{MomentVerdict}
use Rattle.verdict.specs.declared.moment_verdict.verdict.MomentVerdict.TheVariants as moments
use Rattle.routine_judge.proofs.outside.judging.OutsideRun.first_not_passing.Goals as goal
use Rattle.routine_judge.proofs.outside.judging.OutsideRun.first_not_passing.Goals.{in-Is+then-is_pass+in-Fail+in-Missing-1, in-Is+then-is_pass+in-Fail+in-Full-1, in-Is+then-is_pass+in-Fail+in-Different-1, in-Is+then-is_pass+in-TooMany+in-Some-1, in-Is+then-is_pass+in-TooMany+in-None-1, in-Is+then-is_pass+in-Pass-1, in-Asks+in_ok-ask-in-Asks}

-- how far the moments are judged, by the same values
going_same : {A : Type 0} (gives : A → WantedView → ReplyView → A → Type 0) (start : List (List ℕ)) (events : List Event) (first end : ℕ) (old : A)
    (next later : ℕ) (replies more : Replies) (now after : A) → later ≡ next → more ≡ replies → after ≡ now → IsGoing gives start events first end old next replies now →
    IsGoing gives start events first end old later more after
going_same gives start events first end old next later replies more now after n r a is =
    subst (λ (x : ℕ). IsGoing gives start events first end old x more after) (sym n)
    (subst (λ (x : Replies). IsGoing gives start events first end old next x after) (sym r)
    (subst (λ x. IsGoing gives start events first end old next replies x) (sym a) is))

-- a moment that passes is judged
turn_passed : {A : Type 0} (gives : A → WantedView → ReplyView → A → Type 0) (start : List (List ℕ)) (events : List Event) (first end : ℕ) (old : A)
    (next : ℕ) (replies : Replies) (now : A) (judged : Judged) (verdict : MomentVerdict OutsideCause) (passes : Bool) →
    IsGoing gives start events first end old next replies now → next ≢ end → IsJudgedSoFar start events replies.known.items next judged → judged ≡ Is verdict →
    (IsTrue passes ↔ (verdict ≡ moments.Pass)) → passes ≡ true → IsGoing gives start events first end old (next + 1) replies now
turn_passed gives start events first end old next replies now judged verdict passes going not so is means holds =
    going_passed gives start events first end old next replies now going not
    (subst (λ (j : Judged). IsJudgedSoFar start events replies.known.items next j)
    (is ∙ ap (λ (v : MomentVerdict OutsideCause). Is v) (means.0 (true_of passes holds))) so)

pub returns-in_err-opener-clause-err : goal.returns-in_err-opener-clause-err
returns-in_err-opener-clause-err g c =
    let p = err_from_is_err_and c.from_residual.result c.from_residual.ensures.1 in
    rw (p.1, p.2) (refl, ([], HasAsked.nothing))

pub loop-init : goal.loop-init
loop-init g c = (
  going_first g.A.Answering.gives c.args.self.now.start c.args.self.now.events c.args.first c.args.end c.args.answering.now c.none-replies.result
      c.requires.order c.none-replies.ensures.known c.none-replies.ensures.lines,
  ap length c.in_ok-opener.ensures ∙ length-replicate c.self.inside.lines _ ∙ c.self.invariant.9
      ∙ ap (λ (w : IndexView). length w.start) c.self.view_is,
)

pub returns-then-next-end-clause-ok : goal.returns-then-next-end-clause-ok
returns-then-next-end-clause-ok g c =
    going_all g.A.Answering.gives c.args.self.now.start c.args.self.now.events c.args.first c.args.end c.args.answering.now c.loop.next c.loop.replies
    c.loop.answering c.loop.invariant.0 c.if-next-end.true

pub returns-in_err-judged-clause-err : goal.returns-in_err-judged-clause-err
returns-in_err-judged-clause-err g c =
    let p = err_from_is_err_and c.from_residual-in_err-judged.result c.from_residual-in_err-judged.ensures.1 in
    rw (p.1, p.2) (refl, (c.loop.replies.known.items, c.loop.invariant.0.asked))

pub returns-else-is_pass-clause-ok : goal.returns-else-is_pass-clause-ok
returns-else-is_pass-clause-ok g c =
    let view = c.args.self.now in
    going_failed g.A.Answering.gives view.start view.events c.args.first c.args.end c.args.answering.now c.loop.next c.loop.replies c.loop.answering
    c.in-Is.verdict c.loop.invariant.0 c.if-next-end.false (λ e. not_true c.is_pass.result c.if-is_pass.false (c.is_pass.ensures.1 e))
    (subst (λ (j : Judged). IsJudgedSoFar view.start view.events c.loop.replies.known.items c.loop.next j) c.in-Is.is c.in_ok-judged.ensures.ok)

pub returns-in_err-ask-in-Asks-clause-err : goal.returns-in_err-ask-in-Asks-clause-err
returns-in_err-ask-in-Asks-clause-err g c =
    let view = c.args.self.now in
    let wanted = subst (λ (j : Judged). IsJudgedSoFar view.start view.events c.loop.replies.known.items c.loop.next j) c.in-Asks.is c.in_ok-judged.ensures.ok in
    let p = err_from_is_err_and c.from_residual-in_err-ask-in-Asks.result c.from_residual-in_err-ask-in-Asks.ensures.1 in
    rw (p.1, p.2) (going_unanswered g.A.Answering.gives g.A.Answering.fails view.start view.events c.args.first c.args.end c.args.answering.now c.loop.next
    c.in-Asks.moment c.in-Asks.numbers.items c.loop.replies c.loop.answering c.ask.new.answering _ c.loop.invariant.0 wanted c.in_err-ask-in-Asks.ensures.err)

pub loop-preserved : goal.loop-preserved
loop-preserved g c =
    let view = c.args.self.now in
    let gives = g.A.Answering.gives in
    let old = c.args.answering.now in
    let size = c.in_ok-judged.ensures.size in
    elim c.match-judged.branch [
      | in-Is+then-is_pass+in-Fail+in-Missing-1 w ↦ (
        going_same gives view.start view.events c.args.first c.args.end old (c.loop.next + 1) _ c.loop.replies _ c.loop.answering _ w.next-is w.replies-is w.answering-is
            (turn_passed gives view.start view.events c.args.first c.args.end old c.loop.next c.loop.replies c.loop.answering c.in_ok-judged.judged w.in-Is.verdict
            w.is_pass.result c.loop.invariant.0 c.if-next-end.false c.in_ok-judged.ensures.ok w.in-Is.is w.is_pass.ensures w.if-is_pass.true),
        size,
      )
      | in-Is+then-is_pass+in-Fail+in-Full-1 w ↦ (
        going_same gives view.start view.events c.args.first c.args.end old (c.loop.next + 1) _ c.loop.replies _ c.loop.answering _ w.next-is w.replies-is w.answering-is
            (turn_passed gives view.start view.events c.args.first c.args.end old c.loop.next c.loop.replies c.loop.answering c.in_ok-judged.judged w.in-Is.verdict
            w.is_pass.result c.loop.invariant.0 c.if-next-end.false c.in_ok-judged.ensures.ok w.in-Is.is w.is_pass.ensures w.if-is_pass.true),
        size,
      )
      | in-Is+then-is_pass+in-Fail+in-Different-1 w ↦ (
        going_same gives view.start view.events c.args.first c.args.end old (c.loop.next + 1) _ c.loop.replies _ c.loop.answering _ w.next-is w.replies-is w.answering-is
            (turn_passed gives view.start view.events c.args.first c.args.end old c.loop.next c.loop.replies c.loop.answering c.in_ok-judged.judged w.in-Is.verdict
            w.is_pass.result c.loop.invariant.0 c.if-next-end.false c.in_ok-judged.ensures.ok w.in-Is.is w.is_pass.ensures w.if-is_pass.true),
        size,
      )
      | in-Is+then-is_pass+in-TooMany+in-Some-1 w ↦ (
        going_same gives view.start view.events c.args.first c.args.end old (c.loop.next + 1) _ c.loop.replies _ c.loop.answering _ w.next-is w.replies-is w.answering-is
            (turn_passed gives view.start view.events c.args.first c.args.end old c.loop.next c.loop.replies c.loop.answering c.in_ok-judged.judged w.in-Is.verdict
            w.is_pass.result c.loop.invariant.0 c.if-next-end.false c.in_ok-judged.ensures.ok w.in-Is.is w.is_pass.ensures w.if-is_pass.true),
        size,
      )
      | in-Is+then-is_pass+in-TooMany+in-None-1 w ↦ (
        going_same gives view.start view.events c.args.first c.args.end old (c.loop.next + 1) _ c.loop.replies _ c.loop.answering _ w.next-is w.replies-is w.answering-is
            (turn_passed gives view.start view.events c.args.first c.args.end old c.loop.next c.loop.replies c.loop.answering c.in_ok-judged.judged w.in-Is.verdict
            w.is_pass.result c.loop.invariant.0 c.if-next-end.false c.in_ok-judged.ensures.ok w.in-Is.is w.is_pass.ensures w.if-is_pass.true),
        size,
      )
      | in-Is+then-is_pass+in-Pass-1 w ↦ (
        going_same gives view.start view.events c.args.first c.args.end old (c.loop.next + 1) _ c.loop.replies _ c.loop.answering _ w.next-is w.replies-is w.answering-is
            (turn_passed gives view.start view.events c.args.first c.args.end old c.loop.next c.loop.replies c.loop.answering c.in_ok-judged.judged w.in-Is.verdict
            w.is_pass.result c.loop.invariant.0 c.if-next-end.false c.in_ok-judged.ensures.ok w.in-Is.is w.is_pass.ensures w.if-is_pass.true),
        size,
      )
      | in-Asks+in_ok-ask-in-Asks w ↦ (
        going_same gives view.start view.events c.args.first c.args.end old c.loop.next _ w.ask.new.replies _ w.ask.new.answering _ w.next-is w.replies-is w.answering-is
            (going_answered gives view.start view.events c.args.first c.args.end old c.loop.next w.in-Asks.moment w.in-Asks.numbers.items c.loop.replies
            w.ask.new.replies c.loop.answering w.ask.new.answering c.loop.invariant.0
            (subst (λ (j : Judged). IsJudgedSoFar view.start view.events c.loop.replies.known.items c.loop.next j) w.in-Asks.is c.in_ok-judged.ensures.ok)
            w.in_ok-ask-in-Asks.ensures.ok w.in_ok-ask-in-Asks.ensures.known),
        size,
      )
    ]
