use Rattle.std.proofs.Common.{◌≡◌, ◌∙◌, ℕ, List, ap, refl, subst, sym}
use Rattle.std.proofs.lemmas.Result.{IfOk-weaker}
use Rattle.crash_image.specs.TraceIndexView.{IndexView}
use Rattle.crash_image.specs.View.{HasLines}
use Rattle.routine_judge.proofs.OutsideAsking.{asked_full, carried}
use Rattle.routine_judge.proofs.OutsideMeaning.{IsSoughtMoment, judged_so_far}
use Rattle.routine_judge.specs.OutsideJudging.{IsJudgedSoFar, IsRightSoFar}
use Rattle.routine_judge.specs.OutsideTables.{AreKnownIn, IsSoughtOn}
use Rattle.routine_judge.specs.declared.outside.moment.RightSoFar.{RightSoFar}
use Rattle.routine_judge.specs.declared.outside.replies.Replies.{Replies}
use Rattle.store_trace.proofs.Images.{image_same}
use Rattle.store_trace.specs.History.{at_moment}
use Rattle.store_trace.specs.declared.event.Event.{Event}
use Rattle.verdict.proofs.CutLines.{images_of}
use Rattle.routine_judge.proofs.outside.judging.OutsideRun.judge_moment.Goals as goal

pub new-cuts-requires-clause-whole : goal.new-cuts-requires-clause-whole
new-cuts-requires-clause-whole g c =
    let i = c.self.inside in
    let v = c.self.invariant in
    images_of i.index.start i.medium.now i.index.events i.trace.now.events c.args.moment v.0 v.1 v.2 v.3

-- the replies are known by the lines and events of the cuts
known_here : (replies : Replies) (start other : List (List ℕ)) (events more : List Event) → start ≡ other → events ≡ more → AreKnownIn other more replies →
    AreKnownIn start events replies
known_here replies start other events more s e are =
    carried (λ lines es n. AreKnownIn lines es replies) other start more events 0 0 (sym s) (sym e) refl are

pub invariant_of-images : goal.invariant_of-images
invariant_of-images g c =
    let v = c.self.invariant in
    let cuts = c.new-cuts.result in
    let own = c.new-cuts.ensures.index in
    record {
      known = known_here c.args.replies.now cuts.index.now.start c.args.self.now.start cuts.index.now.events c.args.self.now.events
          (ap (λ (x : IndexView). x.start) own ∙ v.0 ∙ ap (λ (w : IndexView). w.start) c.self.view_is)
          (ap (λ (x : IndexView). x.events) own ∙ v.1 ∙ ap (λ (w : IndexView). w.events) c.self.view_is) c.requires.known.known;
    }

pub open_moment-requires-clause-alike : goal.open_moment-requires-clause-alike
open_moment-requires-clause-alike g c κs within = λ k other found same f.
    let cuts = c.new-cuts.result in
    let right = c.in-Are.right in
    subst (λ (lines : List (List ℕ)). IsSoughtOn cuts.index.now.start cuts.index.now.events c.args.replies.now.known.items right.answers.answers.items lines found)
    (sym (image_same cuts.index.now.start k other (at_moment cuts.index.now.events cuts.moment) same)) f

pub returns-clause-ok : goal.returns-clause-ok
returns-clause-ok g c =
    let i = c.self.inside in
    let v = c.self.invariant in
    let cuts = c.new-cuts.result in
    let own = c.new-cuts.ensures.index in
    let view = c.args.self.now in
    let m = c.args.moment in
    let right = c.in-Are.right in
    let verdict = c.in_ok-verdict.verdict in
    let start = ap (λ (x : IndexView). x.start) own ∙ v.0 ∙ ap (λ (w : IndexView). w.start) c.self.view_is in
    let events = ap (λ (x : IndexView). x.events) own ∙ v.1 ∙ ap (λ (w : IndexView). w.events) c.self.view_is in
    let ours = carried (IsSoughtMoment c.args.replies.now right (at_moment i.trace.now.events m) verdict) cuts.index.now.start view.start cuts.index.now.events view.events
    cuts.moment m start events c.new-cuts.ensures.moment c.in_ok-verdict.ensures.ok in
    let sought = subst (λ (es : List Event). IsSoughtMoment c.args.replies.now right (at_moment es m) verdict view.start view.events m)
    (ap (λ (w : IndexView). w.events) c.self.view_is) ours in
    let is = subst (λ (r : RightSoFar). IsRightSoFar view.start view.events c.args.replies.now.known.items m r) c.in-Are.is c.in_ok-right.ensures in
    IfOk-weaker c.said.result _ (IsJudgedSoFar view.start view.events c.args.replies.now.known.items m)
    (λ judged said. judged_so_far view.start view.events c.args.replies.now is.0 m right verdict judged
    (carried (λ lines es n. HasLines lines es) i.medium.now view.start i.trace.now.events view.events m m
    (ap (λ (w : IndexView). w.start) c.self.view_is) (ap (λ (w : IndexView). w.events) c.self.view_is) refl v.4)
    c.requires.there c.requires.known is.1 is.2 sought said)
    c.said.ensures

pub returns-in-Lacks-clause-ok : goal.returns-in-Lacks-clause-ok
returns-in-Lacks-clause-ok g c =
    let view = c.args.self.now in
    let lacks = subst (λ (r : RightSoFar). IsRightSoFar view.start view.events c.args.replies.now.known.items c.args.moment r) c.in-Lacks.is c.in_ok-right.ensures in
    asked_full view.start view.events c.args.replies.now.known.items c.in-Lacks.at c.in_ok-numbers-in-Lacks.numbers.items c.in_ok-numbers-in-Lacks.ensures.lines
    lacks c.in_ok-numbers-in-Lacks.ensures.numbers
