use Rattle.std.proofs.Common.{◌≡◌, ◌∙◌, ℕ, List, Option, Some, None, ap, length, refl, subst}
use Rattle.std.specs.Prelude.{IfNone, IfSome}
use Rattle.crash_image.specs.TraceIndexView.{IndexView}
use Rattle.routine_judge.proofs.OutsideAsking.{carried}
use Rattle.routine_judge.specs.Images.{full_cut}
use Rattle.routine_judge.specs.Outside.{HasNoneOn}
use Rattle.routine_judge.specs.OutsideTables.{IsReplyAt}
use Rattle.routine_judge.specs.OutsideViews.{KnownView}
use Rattle.store_trace.proofs.Images.{length_image}
use Rattle.store_trace.specs.History.{at_moment}
use Rattle.store_trace.specs.declared.event.Event.{Event}
use Rattle.verdict.proofs.CutLines.{images_of}
use Rattle.verdict.specs.CutImages.{image_at}
use Rattle.routine_judge.proofs.outside.judging.OutsideRun.full_reply.Goals as goal

abbrev full : List (List ℕ) → List Event → ℕ → List (List ℕ)
full start events m = image_at start events m (full_cut events m)

-- reply i is one on the full image of moment m
abbrev IsOnFull : List KnownView → ℕ → List (List ℕ) → List Event → ℕ → Type 0
IsOnFull replies i start events m = (known : KnownView) × IsReplyAt start events replies i (full start events m) known

abbrev HasNoneOnFull : List KnownView → List (List ℕ) → List Event → ℕ → Type 0
HasNoneOnFull replies start events m = HasNoneOn start events replies (full start events m)

-- what is found on a medium that is the full image
some_full : (found : Option ℕ) (replies : List KnownView) (medium start other : List (List ℕ)) (events more : List Event) (m : ℕ) → medium ≡ full start events m →
    start ≡ other → events ≡ more → IfSome found (λ i. (known : KnownView) × IsReplyAt start events replies i medium known) →
    IfSome found (λ i. IsOnFull replies i other more m)
some_full None replies medium start other events more m f s e has = tt
some_full (Some i) replies medium start other events more m f s e has =
    carried (IsOnFull replies i) start other events more m m s e refl
    (has.0, subst (λ (lines : List (List ℕ)). IsReplyAt start events replies i lines has.0) f has.1)

none_full : (found : Option ℕ) (replies : List KnownView) (medium start other : List (List ℕ)) (events more : List Event) (m : ℕ) → medium ≡ full start events m →
    start ≡ other → events ≡ more → IfNone found (HasNoneOn start events replies medium) → IfNone found (HasNoneOnFull replies other more m)
none_full None replies medium start other events more m f s e has =
    carried (HasNoneOnFull replies) start other events more m m s e refl
    (subst (λ (lines : List (List ℕ)). HasNoneOn start events replies lines) f has)
none_full (Some i) replies medium start other events more m f s e has = tt

-- the image of the cuts of an index at a moment
full_of : (one other : IndexView) (k m : ℕ) (medium : List (List ℕ)) → one ≡ other → k ≡ m → medium ≡ full one.start one.events k → medium ≡ full other.start other.events m
full_of one other k m medium o e is =
    is ∙ ap (λ (x : IndexView). full x.start x.events k) o ∙ ap (λ (n : ℕ). full other.start other.events n) e

pub new-cuts-requires-clause-whole : goal.new-cuts-requires-clause-whole
new-cuts-requires-clause-whole c =
    let i = c.self.inside in
    let v = c.self.invariant in
    images_of i.index.start i.medium.now i.index.events i.trace.now.events c.args.moment v.0 v.1 v.2 v.3

pub returns-clause-some : goal.returns-clause-some
returns-clause-some c =
    let i = c.self.inside in
    let v = c.self.invariant in
    let cuts = c.new-cuts.result in
    some_full c.find.result c.args.replies.now.known.items c.new-image.result i.index.start c.args.self.now.start i.index.events c.args.self.now.events c.args.moment
    (full_of cuts.index.now i.index cuts.moment c.args.moment c.new-image.result c.new-cuts.ensures.index c.new-cuts.ensures.moment c.new-image.ensures)
    (v.0 ∙ ap (λ (w : IndexView). w.start) c.self.view_is) (v.1 ∙ ap (λ (w : IndexView). w.events) c.self.view_is) c.find.ensures.some

pub returns-clause-none : goal.returns-clause-none
returns-clause-none c =
    let i = c.self.inside in
    let v = c.self.invariant in
    let cuts = c.new-cuts.result in
    none_full c.find.result c.args.replies.now.known.items c.new-image.result i.index.start c.args.self.now.start i.index.events c.args.self.now.events c.args.moment
    (full_of cuts.index.now i.index cuts.moment c.args.moment c.new-image.result c.new-cuts.ensures.index c.new-cuts.ensures.moment c.new-image.ensures)
    (v.0 ∙ ap (λ (w : IndexView). w.start) c.self.view_is) (v.1 ∙ ap (λ (w : IndexView). w.events) c.self.view_is) c.find.ensures.none

pub find-requires-clause-size : goal.find-requires-clause-size
find-requires-clause-size c =
    let cuts = c.new-cuts.result in
    let index = cuts.index.now in
    ap (λ (medium : List (List ℕ)). length medium) c.new-image.ensures
    ∙ length_image index.start (full_cut index.events cuts.moment) (at_moment index.events cuts.moment)
    ∙ ap (λ (x : IndexView). length x.start) c.new-cuts.ensures.index
