use Rattle.std.proofs.Common.{◌≡◌, ◌∙◌, ◌<◌, ◌++◌, ap, subst, sym, List, [], ℕ, length, map, Option, Some, None}
use Rattle.std.specs.List.{AllByRecursion}
use Rattle.image_check.specs.Verdicts.{whole_line}
use Rattle.routine_judge.proofs.OutsideAsking.{whole_below}
use Rattle.routine_judge.specs.Outside.{HasNoneOn}
use Rattle.routine_judge.specs.OutsideTables.{IsReplyAt, IsSoughtOn}
use Rattle.routine_judge.specs.OutsideViews.{KnownView}
use Rattle.routine_judge.specs.declared.outside.cause.Sought.{Sought}
use Rattle.routine_judge.specs.declared.outside.cause.Sought.TheVariants.{Unknown}
use Rattle.store_trace.proofs.Images.{length_image}
use Rattle.store_trace.specs.Floor.{floor}
use Rattle.store_trace.specs.History.{at_moment}
use Rattle.store_trace.specs.declared.event.Event.{Event}
use Rattle.verdict.specs.CutImages.{image_at}
use Rattle.verdict.specs.Numbers.{number_over}
use Rattle.verdict.specs.declared.branches.question.Question.{Question}
use Rattle.routine_judge.proofs.outside.known_images.KnownImagesRecovery.recover.Goals as goal

-- what is asked where nothing was before
asked_here : (lines listed : List ℕ) (old new : List Question) → listed ≡ lines → old ≡ [] → new ≡ old ++ map whole_line listed → new ≡ map whole_line lines
asked_here lines listed old new same none grown =
    grown ∙ ap (λ (qs : List Question). qs ++ map whole_line listed) none ∙ ap (λ (ls : List ℕ). map whole_line ls) same

pub find-requires-clause-size : goal.find-requires-clause-size
find-requires-clause-size c =
    let cuts = c.args.self.now.cuts.now in
    let p = at_moment cuts.index.now.events cuts.moment in
    ap (λ (medium : List (List ℕ)). length medium) c.new-image.ensures
    ∙ length_image cuts.index.now.start (number_over (λ l. floor l p) c.args.numbers.now) p

pub returns-in-Some-clause-below : goal.returns-in-Some-clause-below
returns-in-Some-clause-below c =
    let s = c.args.self.now in
    let count = length s.cuts.now.index.now.start in
    subst (λ (qs : List Question). AllByRecursion (λ q. q.line < count) qs)
    (sym (asked_here s.replies.now.lines.items _ c.args.asked.now.items _ c.deref.ensures.value c.requires.fresh c.in_ok-ask_whole.ensures))
    (whole_below count s.replies.now.lines.items s.known.there)

pub returns-in-None-clause-below : goal.returns-in-None-clause-below
returns-in-None-clause-below c =
    let s = c.args.self.now in
    let count = length s.cuts.now.index.now.start in
    subst (λ (qs : List Question). AllByRecursion (λ q. q.line < count) qs)
    (sym (asked_here s.replies.now.lines.items _ c.args.asked.now.items _ c.deref.ensures.value c.requires.fresh c.in_ok-ask_whole.ensures))
    (whole_below count s.replies.now.lines.items s.known.there)

pub returns-in-Some-clause-judged : goal.returns-in-Some-clause-judged
returns-in-Some-clause-judged c =
    let s = c.args.self.now in
    let index = s.cuts.now.index.now in
    let w = c.in-Some.ensures.some in
    subst (λ (medium : List (List ℕ)). IsSoughtOn index.start index.events s.replies.now.known.items s.right.now.answers.answers.items medium c.judge.result)
    c.new-image.ensures (c.judge.ensures index.start c.new-image.result index.events w.0 w.1)
