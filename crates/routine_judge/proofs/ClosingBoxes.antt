-- A box while it is closed, part by part.
use Rattle.std.proofs.Common.{◌≡◌, ◌⊎◌, ℕ, suc, ◌+◌, ◌≤◌, List, [], ◌∷◌, ◌++◌, Option, Some, None, Result, Ok, Err, length, refl, sym, ap, subst, ◌∙◌, inl, inr, arith}
use Rattle.std.specs.Prelude.{All}
use Rattle.std.specs.List.{Contains}
use Rattle.std.proofs.lemmas.List.{length-set}
use Rattle.std.proofs.lemmas.List.Elements.{All-cons, All-head, All-pop, All-tail}
use Rattle.machine.specs.Replies.{trace_in}
use Rattle.program.specs.Sections.{Sections}
use Rattle.recovery.proofs.Opened.{part_answers, part_lies, part_made}
use Rattle.recovery.proofs.Parted.{others_differ, part_agrees, parts_cover}
use Rattle.recovery.specs.Answers.{answer}
use Rattle.recovery.specs.Asking.{asked}
use Rattle.recovery.specs.Boxes.{IsIn, IsInOne, alike, left_of, part_of}
use Rattle.recovery.specs.Closed.{BoundBox, IsCovered}
use Rattle.recovery.specs.Cuts.{IsLeft, shown_at}
use Rattle.recovery.specs.Parts.{part_by}
use Rattle.recovery.specs.declared.recovery_run.Cause as run
use Rattle.routine_judge.proofs.Covering.{covered_grows, grows_none, grows_on}
use Rattle.routine_judge.proofs.Keepings.{more_one, one_more}
use Rattle.routine_judge.specs.BoxViews.{first_image}
use Rattle.routine_judge.specs.Closing.{AreLeft, AreOfLines, AreReached, Grows, GrowsAfter, GrowsBy, GrowsFrom, HasBad, IsClosedBox, IsDone, IsFoundAgain, IsJudgedAgain, IsMomentCovered, IsPartClosed, IsPartMade, IsPending}
use Rattle.routine_judge.specs.CutsInRecovery.{IsAllowed}
use Rattle.routine_judge.specs.OpenedBoxes.{IsOpened}
use Rattle.routine_judge.specs.declared.cuts.closing.Closing.{Closing}
use Rattle.routine_judge.specs.declared.cuts.judging.CutCause.{CutCause}
use Rattle.routine_judge.specs.declared.right.RightAnswers.{RightAnswers}
use Rattle.store_trace.specs.History.{at_moment}
use Rattle.store_trace.specs.TraceView.{NamesLine}
use Rattle.store_trace.specs.declared.event.Event.{Event}
use Rattle.verdict.specs.declared.branches.question.Question.{Question}

-- a part has as many lines as its box
length_part : (box : List (List (List ℕ))) (image : List (List ℕ)) (questions : List Question) → length (part_of box image questions) ≡ length box
length_part box image [] = refl
length_part box image (q ∷ questions) = length_part (alike box image q) image questions ∙ length-set box q.line _

pub part_size : (program : Sections) (steps : ℕ) (box part : List (List (List ℕ))) (events : List Event) (found : Result (List ℕ) run.Cause) (old new : List (List (List (List ℕ))))
    → IsOpened program steps box part events found old new → length part ≡ length box
part_size program steps box part events found old new o =
    ap (λ (b : List (List (List ℕ))). length b) o.keeps ∙ length_part box (first_image box) (asked o.end.common.history)

pub part_named : (program : Sections) (steps : ℕ) (box part : List (List (List ℕ))) (events : List Event) (found : Result (List ℕ) run.Cause) (old new : List (List (List (List ℕ))))
    → IsOpened program steps box part events found old new → All (NamesLine (length box)) events → All (NamesLine (length part)) events
part_named program steps box part events found old new o named =
    subst (λ (n : ℕ). All (NamesLine n) events) (sym (part_size program steps box part events found old new o)) named

-- the routine's answer on it is bad
pub part_bad : (program : Sections) (steps : ℕ) (right : RightAnswers) (box part : List (List (List ℕ))) (events : List Event) (found : Result (List ℕ) run.Cause)
    (shown : Option (List ℕ)) (cause : CutCause) (old new : List (List (List (List ℕ)))) → IsOpened program steps box part events found old new
    → IsJudgedAgain right shown found (Some cause) → HasBad program steps right box shown cause
part_bad program steps right box part events found shown cause old new o bad =
    record {
      image = first_image box;
      inside = o.opened.inside;
      is_bad = record { found = found; answers = record { end = o.end; full = o.full; runs = o.opened.runs; comes = o.comes }; judged = bad };
    }

-- or it is well, and what cuts leave is covered
as_covered : (boxes : List BoundBox) (cuts : ℕ) (part other : List (List (List ℕ))) (events others : List Event) (found same : Result (List ℕ) run.Cause) (shown : Option (List ℕ)) (m : ℕ)
    → part ≡ other → events ≡ others → found ≡ same → IsMomentCovered boxes cuts part events found shown m → IsMomentCovered boxes cuts other others same shown m
as_covered boxes cuts part other events others found same shown m e f g h =
    subst (λ (r : Result (List ℕ) run.Cause). IsMomentCovered boxes cuts other others r shown m) g
    (subst (λ (es : List Event). IsMomentCovered boxes cuts other es found shown m) f
    (subst (λ (b : List (List (List ℕ))). IsMomentCovered boxes cuts b events found shown m) e h))

pub part_done : (program : Sections) (steps : ℕ) (right : RightAnswers) (most : Option ℕ) (box part : List (List (List ℕ))) (events : List Event) (found : Result (List ℕ) run.Cause)
    (shown : Option (List ℕ)) (cuts : ℕ) (boxes : List BoundBox) (old new : List (List (List (List ℕ)))) → IsOpened program steps box part events found old new
    → IsJudgedAgain right shown found None → (IsAllowed most cuts → (m : ℕ) → m ≤ length events → IsMomentCovered boxes cuts part events found shown m)
    → IsPartClosed program steps right most boxes cuts shown box new None
part_done program steps right most box part events (Err cause) shown cuts boxes old new o well all = absurd (well.1)
part_done program steps right most box part events (Ok bytes) shown cuts boxes old new o well all = λ image h.
    elim (parts_cover box (first_image box) image (asked o.end.common.history) h) [
      | inr other ↦ inl ((o.others image).1 (inr other))
      | inl inside ↦ inr (record {
        well = part_answers program steps box (first_image box) image o.end o.full (Contains right.answers.items) bytes shown o.opened (sym o.comes) well.0 well.1 inside;
        followed = λ few left then_shown cut.
            let l = part_lies program steps box (first_image box) image o.end o.full shown left then_shown o.opened inside cut in
            let there : l.0 ≤ length events = subst (λ (es : List Event). l.0 ≤ length es) (sym o.traces) l.1 in
            subst (λ (s : Option (List ℕ)). IsCovered boxes cuts left s) (sym l.3)
            (as_covered boxes cuts part (part_by box (first_image box) o.end) events (trace_in o.end.common) (Ok bytes) _ shown l.0 o.keeps o.traces o.comes (all few l.0 there) left l.2);
      })
    ]

-- what a cut more leaves of the part is left of its box
pub part_left : (program : Sections) (steps : ℕ) (box part : List (List (List ℕ))) (events : List Event) (found : Result (List ℕ) run.Cause) (shown : Option (List ℕ)) (cuts : ℕ)
    (pending rest : List (List (List (List ℕ)))) (origin : List (List (List ℕ))) (before : ℕ) → IsOpened program steps box part events found pending rest
    → cuts ≡ before + 1 → AreLeft program steps origin before box shown
    → (m : ℕ) → m ≤ length events → AreLeft program steps origin cuts (left_of (at_moment events m) part) (shown_at m (length events) found shown)
part_left program steps box part events found shown cuts pending rest origin before o e left m there image h =
    let first = first_image box in
    let trace = trace_in o.end.common in
    let early : m ≤ length trace = subst (λ (es : List Event). m ≤ length es) o.traces there in
    let inside : IsIn (left_of (at_moment trace m) (part_by box first o.end)) image =
    subst (λ (b : List (List (List ℕ))). IsIn (left_of (at_moment trace m) b) image) o.keeps
    (subst (λ (es : List Event). IsIn (left_of (at_moment es m) part) image) o.traces h) in
    let made = part_made program steps box first o.end o.full shown m image o.opened early inside in
    let was = part_agrees box first made.0 (asked o.end.common.history) o.opened.below made.1 in
    let told : shown_at m (length trace) (answer o.end o.full) shown ≡ shown_at m (length events) found shown =
    ap (λ (es : List Event). shown_at m (length es) (answer o.end o.full) shown) (sym o.traces)
    ∙ ap (λ (f : Result (List ℕ) run.Cause). shown_at m (length events) f shown) (sym o.comes) in
    let one : IsLeft program steps (IsIn origin) (suc before) image (shown_at m (length trace) (answer o.end o.full) shown) = (made.0, shown, left made.0 was.0, made.2) in
    let more : suc before ≡ cuts = omega (arith, e) in
    subst (λ (n : ℕ). IsLeft program steps (IsIn origin) n image (shown_at m (length events) found shown)) more
    (subst (λ (s : Option (List ℕ)). IsLeft program steps (IsIn origin) (suc before) image s) told one)

pub from_none : (program : Sections) (steps : ℕ) (boxes : List BoundBox) (cuts : ℕ) (images : List (List (List ℕ))) (shown : Option (List ℕ))
    → GrowsFrom program steps boxes boxes cuts images shown
from_none program steps boxes cuts images shown = record { grows = grows_none boxes; reached = λ origin before e left all. all }

pub from_part : (program : Sections) (steps : ℕ) (box part : List (List (List ℕ))) (events : List Event) (found : Result (List ℕ) run.Cause) (shown : Option (List ℕ)) (cuts : ℕ)
    (old new : List BoundBox) (pending rest : List (List (List (List ℕ)))) → IsOpened program steps box part events found pending rest
    → GrowsAfter old new cuts part events found shown → GrowsFrom program steps old new cuts box shown
from_part program steps box part events found shown cuts old new pending rest o g = record {
  grows = g.grows;
  reached = λ origin before e left all.
      g.reached program steps origin (part_left program steps box part events found shown cuts pending rest origin before o e left) all;
}

pub from_as : (program other : Sections) (steps many : ℕ) (old new : List BoundBox) (cuts : ℕ) (images : List (List (List ℕ))) (shown : Option (List ℕ)) → program ≡ other → steps ≡ many
    → GrowsFrom program steps old new cuts images shown → GrowsFrom other many old new cuts images shown
from_as program other steps many old new cuts images shown e f g =
    subst (λ (p : Sections). GrowsFrom p many old new cuts images shown) e (subst (λ (n : ℕ). GrowsFrom program n old new cuts images shown) f g)

pub part_pending : (program : Sections) (steps : ℕ) (box part : List (List (List ℕ))) (events : List Event) (found : Result (List ℕ) run.Cause) (old new : List (List (List (List ℕ))))
    → IsOpened program steps box part events found old new → IsPending box old new
part_pending program steps box part events found old new o = (
  λ image h. (o.others image).1 (inl h),
  λ image h. elim ((o.others image).0 h) [
    | inl was ↦ inl was
    | inr other ↦ inr (others_differ box (first_image box) image (asked o.end.common.history) o.opened.below other).0
  ],
)

-- what comes of a part, where it was judged
pub part_made_bad : (program : Sections) (closing : Closing) (lines : ℕ) (boxes : List BoundBox) (box part : List (List (List ℕ))) (events : List Event)
    (found : Result (List ℕ) run.Cause) (cause : CutCause) (old new : List (List (List (List ℕ)))) → IsOpened program closing.rule.steps box part events found old new
    → AreOfLines lines new → IsJudgedAgain closing.rule.right.now closing.bound.shown found (Some cause)
    → IsPartMade program closing lines boxes box old new (Some cause)
part_made_bad program closing lines boxes box part events found cause old new o sizes bad = record {
  closed = part_bad program closing.rule.steps closing.rule.right.now box part events found closing.bound.shown cause old new o bad;
  moved = part_pending program closing.rule.steps box part events found old new o;
  sizes = sizes;
}

pub part_made_well : (program : Sections) (closing : Closing) (lines : ℕ) (boxes : List BoundBox) (box part : List (List (List ℕ))) (events : List Event)
    (found : Result (List ℕ) run.Cause) (old new : List (List (List (List ℕ)))) → IsOpened program closing.rule.steps box part events found old new
    → AreOfLines lines new → IsJudgedAgain closing.rule.right.now closing.bound.shown found None
    → (IsAllowed closing.rule.most closing.bound.cuts → (m : ℕ) → m ≤ length events
    → IsMomentCovered boxes closing.bound.cuts part events found closing.bound.shown m)
    → IsPartMade program closing lines boxes box old new None
part_made_well program closing lines boxes box part events found old new o sizes well all = record {
  closed = part_done program closing.rule.steps closing.rule.right.now closing.rule.most box part events found closing.bound.shown closing.bound.cuts boxes old new o well all;
  moved = part_pending program closing.rule.steps box part events found old new o;
  sizes = sizes;
}

-- said of what is the same
closed_as : (program other : Sections) (steps many : ℕ) (right same : RightAnswers) (most limit : Option ℕ) (boxes : List BoundBox) (cuts : ℕ) (shown : Option (List ℕ)) (images : List (List (List ℕ)))
    (pending : List (List (List (List ℕ)))) (found result : Option CutCause) → program ≡ other → steps ≡ many → right ≡ same → most ≡ limit → found ≡ result
    → IsPartClosed program steps right most boxes cuts shown images pending found → IsPartClosed other many same limit boxes cuts shown images pending result
closed_as program other steps many right same most limit boxes cuts shown images pending found result e f g i h closed =
    subst (λ (p : Sections). IsPartClosed p many same limit boxes cuts shown images pending result) e
    (subst (λ (n : ℕ). IsPartClosed program n same limit boxes cuts shown images pending result) f
    (subst (λ (r : RightAnswers). IsPartClosed program steps r limit boxes cuts shown images pending result) g
    (subst (λ (m : Option ℕ). IsPartClosed program steps right m boxes cuts shown images pending result) i
    (subst (λ (o : Option CutCause). IsPartClosed program steps right most boxes cuts shown images pending o) h closed))))

-- by what it was made
pub made_closed : (program other : Sections) (closing : Closing) (lines steps : ℕ) (right : RightAnswers) (most : Option ℕ) (boxes : List BoundBox) (images : List (List (List ℕ)))
    (old pending : List (List (List (List ℕ)))) (found result : Option CutCause) → program ≡ other → closing.rule.steps ≡ steps → closing.rule.right.now ≡ right
    → closing.rule.most ≡ most → found ≡ result → IsPartMade program closing lines boxes images old pending found
    → IsPartClosed other steps right most boxes closing.bound.cuts closing.bound.shown images pending result
made_closed program other closing lines steps right most boxes images old pending found result e f g h i made =
    closed_as program other closing.rule.steps steps closing.rule.right.now right closing.rule.most most boxes closing.bound.cuts closing.bound.shown images pending found result
    e f g h i made.closed

-- how many lines the images of pending boxes have
pub sized_as : (lines same : ℕ) (boxes : List (List (List (List ℕ)))) → lines ≡ same → AreOfLines lines boxes → AreOfLines same boxes
sized_as lines same boxes e all = subst (λ (n : ℕ). AreOfLines n boxes) e all

pub sized_pop : (lines same : ℕ) (pending rest : List (List (List (List ℕ)))) (images : List (List (List ℕ))) → lines ≡ same → pending ≡ rest ++ images ∷ [] → AreOfLines same pending
    → AreOfLines lines (images ∷ rest)
sized_pop lines same pending rest images e popped all =
    let parts = All-pop (λ (box : List (List (List ℕ))). length box ≡ same) pending rest (Some images) popped all in
    sized_as same lines (images ∷ rest) (sym e) (All-cons (λ (box : List (List (List ℕ))). length box ≡ same) images rest parts.1 parts.0)

pub sized_first : (lines : ℕ) (images : List (List (List ℕ))) (pending : List (List (List (List ℕ)))) → AreOfLines lines (images ∷ pending) → length images ≡ lines
sized_first lines images pending all = All-head (λ (box : List (List (List ℕ))). length box ≡ lines) images pending all

pub sized_rest : (lines : ℕ) (images : List (List (List ℕ))) (old new : List (List (List (List ℕ)))) → AreOfLines lines (images ∷ old)
    → (All (λ box. length box ≡ length images) old → All (λ box. length box ≡ length images) new) → AreOfLines lines new
sized_rest lines images old new all more =
    let first = sized_first lines images old all in
    sized_as (length images) lines new first
    (more (sized_as lines (length images) old (sym first) (All-tail (λ (box : List (List (List ℕ))). length box ≡ lines) images old all)))

-- a box of which these are pending
pub record IsClosing (program : Sections) (steps : ℕ) (right : RightAnswers) (most : Option ℕ) (box : BoundBox) (lines : ℕ) (old new : List BoundBox) (pending : List (List (List (List ℕ)))) : Type 0 where
  pub grows : GrowsBy program steps old new
  pub sizes : All (λ images. length images ≡ lines) pending
  pub within : (image : List (List ℕ)) → IsInOne pending image → IsIn box.images image
  pub each : (image : List (List ℕ)) → IsIn box.images image → IsInOne pending image ⊎ IsDone program steps right.answers.items most new (box.cuts + 1) box.shown image

pub by_none : (program : Sections) (steps : ℕ) (boxes : List BoundBox) → GrowsBy program steps boxes boxes
by_none program steps boxes = record { grows = grows_none boxes; reached = λ origin all. all }

only_box : (images : List (List (List ℕ))) (image : List (List ℕ)) → IsInOne (images ∷ []) image → IsIn images image
only_box images image (inl h) = h
only_box images image (inr none) = absurd none

pub closing_start : (program : Sections) (steps : ℕ) (right : RightAnswers) (most : Option ℕ) (box : BoundBox) (lines : ℕ) (boxes : List BoundBox) (pending : List (List (List (List ℕ))))
    → pending ≡ box.images ∷ [] → All (λ images. length images ≡ lines) pending → IsClosing program steps right most box lines boxes boxes pending
closing_start program steps right most box lines boxes pending e sizes = record {
  grows = by_none program steps boxes;
  sizes = sizes;
  within = λ image h. only_box box.images image (subst (λ (bs : List (List (List (List ℕ)))). IsInOne bs image) e h);
  each = λ image h. inl (subst (λ (bs : List (List (List (List ℕ)))). IsInOne bs image) (sym e) (inl h));
}

done_grows : (program : Sections) (steps : ℕ) (right : List (List ℕ)) (most : Option ℕ) (old new : List BoundBox) (cuts : ℕ) (shown : Option (List ℕ)) (image : List (List ℕ)) → Grows old new
    → IsDone program steps right most old cuts shown image → IsDone program steps right most new cuts shown image
done_grows program steps right most old new cuts shown image g d = record {
  well = d.well;
  followed = λ few left then_shown cut. covered_grows old new cuts left then_shown g (d.followed few left then_shown cut);
}

done_as : (program : Sections) (steps : ℕ) (right : List (List ℕ)) (most : Option ℕ) (boxes : List BoundBox) (cuts other : ℕ) (shown same : Option (List ℕ)) (image : List (List ℕ)) → cuts ≡ other → shown ≡ same
    → IsDone program steps right most boxes cuts shown image → IsDone program steps right most boxes other same image
done_as program steps right most boxes cuts other shown same image e f d =
    subst (λ (s : Option (List ℕ)). IsDone program steps right most boxes other s image) f (subst (λ (n : ℕ). IsDone program steps right most boxes n shown image) e d)

-- the boxes grow by what is left of it
pub closing_grew : (program : Sections) (steps : ℕ) (right : RightAnswers) (most : Option ℕ) (box : BoundBox) (lines : ℕ) (old middle new : List BoundBox) (pending rest : List (List (List (List ℕ))))
    (images : List (List (List ℕ))) (cuts : ℕ) (shown : Option (List ℕ)) → pending ≡ rest ++ images ∷ [] → cuts ≡ box.cuts + 1 → shown ≡ box.shown
    → GrowsFrom program steps middle new cuts images shown
    → ((origin : List (List (List ℕ))) → AreReached program steps origin old → AreLeft program steps origin box.cuts box.images box.shown)
    → IsClosing program steps right most box lines old middle pending → GrowsBy program steps old new
closing_grew program steps right most box lines old middle new pending rest images cuts shown e more same g inside c = record {
  grows = grows_on old middle new c.grows.grows g.grows;
  reached = λ origin all.
      g.reached origin box.cuts more
      (subst (λ (s : Option (List ℕ)). AreLeft program steps origin box.cuts images s) (sym same)
      (λ image h. inside origin all image
      (c.within image (subst (λ (bs : List (List (List (List ℕ)))). IsInOne bs image) (sym e) (more_one rest images image (inr h))))))
      (c.grows.reached origin all);
}

pub closing_next : (program : Sections) (steps : ℕ) (right : RightAnswers) (most : Option ℕ) (box : BoundBox) (lines : ℕ) (old middle new : List BoundBox) (pending rest next : List (List (List (List ℕ))))
    (images : List (List (List ℕ))) (cuts : ℕ) (shown : Option (List ℕ)) → pending ≡ rest ++ images ∷ [] → cuts ≡ box.cuts + 1 → shown ≡ box.shown
    → IsPartClosed program steps right most new cuts shown images next None → IsPending images rest next → All (λ b. length b ≡ lines) next
    → GrowsFrom program steps middle new cuts images shown
    → ((origin : List (List (List ℕ))) → AreReached program steps origin old → AreLeft program steps origin box.cuts box.images box.shown)
    → IsClosing program steps right most box lines old middle pending → IsClosing program steps right most box lines old new next
closing_next program steps right most box lines old middle new pending rest next images cuts shown e more same closed moved sizes g inside c = record {
  grows = closing_grew program steps right most box lines old middle new pending rest images cuts shown e more same g inside c;
  sizes = sizes;
  within = λ image h.
      c.within image (subst (λ (bs : List (List (List (List ℕ)))). IsInOne bs image) (sym e) (more_one rest images image (moved.1 image h)));
  each = λ image h. elim (c.each image h) [
    | inr done ↦ inr (done_grows program steps right.answers.items most middle new (box.cuts + 1) box.shown image g.grows done)
    | inl left ↦ elim (one_more rest images image (subst (λ (bs : List (List (List (List ℕ)))). IsInOne bs image) e left)) [
      | inl later ↦ inl (moved.0 image later)
      | inr here ↦ elim (closed image here) [
        | inl later ↦ inl later
        | inr done ↦ inr (done_as program steps right.answers.items most new cuts (box.cuts + 1) shown box.shown image more same done)
      ]
    ]
  ];
}

pub some_box : BoundBox
some_box = record { images = []; shown = None; cuts = 0 }

-- none is pending any more
done_all : (program : Sections) (steps : ℕ) (right : List (List ℕ)) (most : Option ℕ) (boxes : List BoundBox) (cuts : ℕ) (shown : Option (List ℕ)) (image : List (List ℕ))
    → IsInOne [] image ⊎ IsDone program steps right most boxes cuts shown image → IsDone program steps right most boxes cuts shown image
done_all program steps right most boxes cuts shown image (inl none) = absurd none
done_all program steps right most boxes cuts shown image (inr done) = done

pub closing_end : (program : Sections) (steps : ℕ) (right : RightAnswers) (most : Option ℕ) (box : BoundBox) (lines : ℕ) (old new : List BoundBox) (pending : List (List (List (List ℕ)))) → pending ≡ []
    → IsClosing program steps right most box lines old new pending → IsClosedBox program steps (Contains right.answers.items) most new box
closing_end program steps right most box lines old new pending none c =
    let each : (image : List (List ℕ)) → IsIn box.images image → IsDone program steps right.answers.items most new (box.cuts + 1) box.shown image =
    λ image h. done_all program steps right.answers.items most new (box.cuts + 1) box.shown image
    (subst (λ (bs : List (List (List (List ℕ)))). IsInOne bs image ⊎ IsDone program steps right.answers.items most new (box.cuts + 1) box.shown image) none (c.each image h)) in
    (λ few image h. (each image h).well, λ few image left shown h cut. (each image h).followed few left shown cut)

-- one of them is bad
pub closing_bad : (program : Sections) (steps : ℕ) (right : RightAnswers) (most : Option ℕ) (box : BoundBox) (lines : ℕ) (old middle : List BoundBox) (pending rest : List (List (List (List ℕ))))
    (images : List (List (List ℕ))) (shown : Option (List ℕ)) (cause : CutCause) → pending ≡ rest ++ images ∷ [] → shown ≡ box.shown
    → HasBad program steps right images shown cause → IsClosing program steps right most box lines old middle pending → HasBad program steps right box.images box.shown cause
closing_bad program steps right most box lines old middle pending rest images shown cause e same bad c = record {
  image = bad.image;
  inside = c.within bad.image (subst (λ (bs : List (List (List (List ℕ)))). IsInOne bs bad.image) (sym e) (more_one rest images bad.image (inr bad.inside)));
  is_bad = subst (λ (s : Option (List ℕ)). IsFoundAgain program steps right bad.image s (Some cause)) same bad.is_bad;
}
