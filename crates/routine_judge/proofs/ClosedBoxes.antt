-- Boxes that are closed one after the other, and a moment whose images lie in them.
use Rattle.std.proofs.Common.{◌≡◌, ℕ, zero, suc, ◌+◌, ◌<◌, ◌≤◌, List, [], ◌∷◌, Option, Some, None, length, get_or, refl, sym, ap, subst, ◌∙◌, inl, inr, arith}
use Rattle.std.specs.Prelude.{All, map}
use Rattle.std.specs.List.{AllByRecursion, Contains}
use Rattle.std.proofs.lemmas.Bool.{cases_eq, cases_lt}
use Rattle.std.proofs.lemmas.List.{get_or_append_left, length-append, length-map}
use Rattle.std.proofs.lemmas.List.Elements.{All-contains, All-from_recursion, All-weaker, Contains-append_left, Contains-get_or, recursion_from_All}
use Rattle.program.specs.Sections.{Sections}
use Rattle.recovery.proofs.Boxed.{cut_is_left, in_wider}
use Rattle.recovery.specs.Boxes.{IsIn, LiesWithin, left_of}
use Rattle.recovery.specs.Closed.{BoundBox, IsCovered, IsFollowed, IsWell}
use Rattle.recovery.specs.Cuts.{IsLeft}
use Rattle.routine_judge.proofs.ClosingBoxes.{by_none, some_box}
use Rattle.routine_judge.proofs.Covering.{covered_grows, grows_on, within_size}
use Rattle.routine_judge.proofs.LeftBoxes.{length_left}
use Rattle.routine_judge.proofs.StayingRight.{answered, answered_to}
use Rattle.routine_judge.proofs.Unions.{only_one}
use Rattle.routine_judge.specs.Closing.{AreClosedBoxes, AreJudgedAgain, AreLeft, AreReached, Grows, GrowsBy, HasBad, HasBadBox, HasBadFrom, IsClosedBox, IsClosedVerdict}
use Rattle.routine_judge.specs.CutsInRecovery.{AllAnswered, IsAllowed}
use Rattle.routine_judge.specs.Gathered.{AreAnswers}
use Rattle.routine_judge.specs.RightAnswers.{IsRightOf, Source}
use Rattle.routine_judge.specs.Views.{JudgeView}
use Rattle.routine_judge.specs.declared.cuts.closing.BoxVerdict.{BoxVerdict}
use Rattle.routine_judge.specs.declared.cuts.closing.BoxVerdict.TheVariants as verdicts
use Rattle.routine_judge.specs.declared.cuts.judging.CutCause.{CutCause}
use Rattle.routine_judge.specs.declared.right.RightAnswers.{RightAnswers}
use Rattle.store_trace.proofs.Lines.{within_from_cut}
use Rattle.store_trace.specs.Cut.{IsCutImage, number_in}
use Rattle.store_trace.specs.History.{at_moment}
use Rattle.store_trace.specs.declared.crash_model.step.PersistenceStep.{PersistenceStep}

-- a box that more cuts leave than are looked at
allowed_less : (most : Option ℕ) (n : ℕ) → IsAllowed most (n + 1) → IsAllowed most n
allowed_less None n few = tt
allowed_less (Some most) n few = omega (arith, few)

pub far_closed : (program : Sections) (steps : ℕ) (right : List ℕ → Type 0) (most : Option ℕ) (boxes : List BoundBox) (box : BoundBox) → (¬ IsAllowed most box.cuts)
    → IsClosedBox program steps right most boxes box
far_closed program steps right most boxes box far = (λ few. absurd (far few), λ few. absurd (far (allowed_less most box.cuts few)))

-- a list that grows
followed_grows : (program : Sections) (steps : ℕ) (old new : List BoundBox) (box : BoundBox) → Grows old new → IsFollowed program steps old box → IsFollowed program steps new box
followed_grows program steps old new box g follows = λ image left shown h cut. covered_grows old new (box.cuts + 1) left shown g (follows image left shown h cut)

closed_grows : (program : Sections) (steps : ℕ) (right : List ℕ → Type 0) (most : Option ℕ) (old new : List BoundBox) (box : BoundBox) → Grows old new
    → IsClosedBox program steps right most old box → IsClosedBox program steps right most new box
closed_grows program steps right most old new box g c = (c.0, λ few. followed_grows program steps old new box g (c.1 few))

grown_at : (old new : List BoundBox) (i : ℕ) (d : BoundBox) → Grows old new → i < length old → get_or new i d ≡ get_or old i d
grown_at old new i d (more, e) there = ap (λ (boxes : List BoundBox). get_or boxes i d) e ∙ get_or_append_left old more d i there

grown_length : (old new : List BoundBox) → Grows old new → length old ≤ length new
grown_length old new (more, e) = let size = ap (λ (boxes : List BoundBox). length boxes) e in omega (arith, size, length-append old more)

by_on : (program : Sections) (steps : ℕ) (old middle new : List BoundBox) → GrowsBy program steps old middle → GrowsBy program steps middle new → GrowsBy program steps old new
by_on program steps old middle new g h = record {
  grows = grows_on old middle new g.grows h.grows;
  reached = λ origin all. h.reached origin (g.reached origin all);
}

pub by_as : (program other : Sections) (steps : ℕ) (old new : List BoundBox) → program ≡ other → GrowsBy program steps old new → GrowsBy other steps old new
by_as program other steps old new e g = subst (λ (p : Sections). GrowsBy p steps old new) e g

-- the first boxes are closed
pub record AreClosing (program : Sections) (steps : ℕ) (right : List ℕ → Type 0) (most : Option ℕ) (old new : List BoundBox) (place : ℕ) : Type 0 where
  pub grows : GrowsBy program steps old new
  pub there : place ≤ length new
  pub each : (i : ℕ) (d : BoundBox) → i < place → IsClosedBox program steps right most new (get_or new i d)

pub by_next : (program other : Sections) (steps : ℕ) (right : List ℕ → Type 0) (most : Option ℕ) (old middle new : List BoundBox) (place : ℕ) → other ≡ program
    → AreClosing program steps right most old middle place → GrowsBy other steps middle new → GrowsBy program steps old new
by_next program other steps right most old middle new place e c g = by_on program steps old middle new c.grows (by_as other program steps middle new e g)

pub all_start : (program : Sections) (steps : ℕ) (right : List ℕ → Type 0) (most : Option ℕ) (boxes : List BoundBox) → AreClosing program steps right most boxes boxes 0
all_start program steps right most boxes = record { grows = by_none program steps boxes; there = omega arith; each = λ i d below. absurd (omega (arith, below)) }

lower : (m n : ℕ) → m < n + 1 → (m ≡ n → ⊥) → m < n
lower m n below apart = elim (cases_lt m n) [ inl less ↦ less | inr from ↦ absurd (apart (omega (arith, below, from))) ]

pub all_next : (program : Sections) (steps : ℕ) (right : List ℕ → Type 0) (most : Option ℕ) (old middle new : List BoundBox) (place : ℕ) → place < length middle
    → GrowsBy program steps middle new → ((d : BoundBox) → IsClosedBox program steps right most new (get_or middle place d)) → AreClosing program steps right most old middle place
    → AreClosing program steps right most old new (place + 1)
all_next program steps right most old middle new place inside g closed c =
    let long = grown_length middle new g.grows in
    let at : (i : ℕ) (d : BoundBox) → i < length middle → IsClosedBox program steps right most new (get_or middle i d) → IsClosedBox program steps right most new (get_or new i d) =
    λ i d there h. subst (λ (box : BoundBox). IsClosedBox program steps right most new box) (sym (grown_at middle new i d g.grows there)) h in
    record {
      grows = by_on program steps old middle new c.grows g;
      there = omega (arith, inside, long);
      each = λ i d below. elim (cases_eq i place) [
        | inl here ↦ at i d (omega (arith, here, inside)) (subst (λ (n : ℕ). IsClosedBox program steps right most new (get_or middle n d)) (sym here) (closed d))
        | inr apart ↦
            let less = lower i place below apart in
            at i d (omega (arith, less, inside)) (closed_grows program steps right most middle new (get_or middle i d) g.grows (c.each i d less))
      ];
    }

as_list : (program : Sections) (steps : ℕ) (right : List ℕ → Type 0) (most : Option ℕ) (boxes : List BoundBox) → All (IsClosedBox program steps right most boxes) boxes
    → AreClosedBoxes program steps right most boxes
as_list program steps right None boxes all =
    recursion_from_All (λ (box : BoundBox). IsWell program steps right box × IsFollowed program steps boxes box) boxes
    (All-weaker (IsClosedBox program steps right None boxes) (λ (box : BoundBox). IsWell program steps right box × IsFollowed program steps boxes box)
    (λ box c. (c.0 tt, c.1 tt)) boxes all)
as_list program steps right (Some most) boxes all =
    recursion_from_All (λ (box : BoundBox). (box.cuts ≤ most → IsWell program steps right box) × (box.cuts < most → IsFollowed program steps boxes box)) boxes
    (All-weaker (IsClosedBox program steps right (Some most) boxes)
    (λ (box : BoundBox). (box.cuts ≤ most → IsWell program steps right box) × (box.cuts < most → IsFollowed program steps boxes box))
    (λ box c. (c.0, λ few. c.1 (omega (arith, few)))) boxes all)

pub all_end : (program : Sections) (steps : ℕ) (right : List ℕ → Type 0) (most : Option ℕ) (old new : List BoundBox) (place : ℕ) → length new ≤ place
    → AreClosing program steps right most old new place → AreClosedBoxes program steps right most new
all_end program steps right most old new place past c = as_list program steps right most new (λ i d there. c.each i d (omega (arith, there, past)))

pub bad_box : (program : Sections) (steps : ℕ) (right : RightAnswers) (most : Option ℕ) (middle new : List BoundBox) (place : ℕ) (cause : CutCause) → Grows middle new → place < length middle
    → IsAllowed most (get_or middle place some_box).cuts × HasBad program steps right (get_or middle place some_box).images (get_or middle place some_box).shown cause
    → HasBadBox program steps right most new cause
bad_box program steps right most middle new place cause (more, e) there bad = record {
  box = get_or middle place some_box;
  among = subst (λ (boxes : List BoundBox). Contains boxes (get_or middle place some_box)) (sym e)
      (Contains-append_left middle more (get_or middle place some_box) (Contains-get_or middle place some_box there));
  allowed = bad.0;
  bad = bad.1;
}

-- said of what is the same
pub verdict_as : (program other : Sections) (steps : ℕ) (right : RightAnswers) (most : Option ℕ) (boxes : List BoundBox) (box : BoundBox) (verdict same : BoxVerdict) → program ≡ other
    → verdict ≡ same → IsClosedVerdict program steps right most boxes box verdict → IsClosedVerdict other steps right most boxes box same
verdict_as program other steps right most boxes box verdict same e f h =
    subst (λ (p : Sections). IsClosedVerdict p steps right most boxes box same) e (subst (λ (v : BoxVerdict). IsClosedVerdict program steps right most boxes box v) f h)

judged_as : (program other : Sections) (steps many : ℕ) (right : RightAnswers) (most : Option ℕ) (boxes : List BoundBox) (verdict : BoxVerdict) → program ≡ other → steps ≡ many
    → AreJudgedAgain program steps right most boxes verdict → AreJudgedAgain other many right most boxes verdict
judged_as program other steps many right most boxes verdict e f h =
    subst (λ (p : Sections). AreJudgedAgain p many right most boxes verdict) e (subst (λ (n : ℕ). AreJudgedAgain program n right most boxes verdict) f h)

-- answers that are right are so by what makes them right
well_right : (program : Sections) (steps : ℕ) (answers : List (List ℕ)) (right : List ℕ → Type 0) (box : BoundBox) → ((bytes : List ℕ) → Contains answers bytes → right bytes)
    → IsWell program steps (Contains answers) box → IsWell program steps right box
well_right program steps answers right box are well = λ image h.
    let a = well image h in record { bytes = a.bytes; answers = a.answers; is_right = are a.bytes a.is_right; stays = a.stays }

each_right : (program : Sections) (steps : ℕ) (answers : List (List ℕ)) (right : List ℕ → Type 0) (all boxes : List BoundBox) → ((bytes : List ℕ) → Contains answers bytes → right bytes)
    → AllByRecursion (λ box. IsWell program steps (Contains answers) box × IsFollowed program steps all box) boxes
    → AllByRecursion (λ box. IsWell program steps right box × IsFollowed program steps all box) boxes
each_right program steps answers right all [] are h = tt
each_right program steps answers right all (box ∷ boxes) are h =
    ((well_right program steps answers right box are h.0.0, h.0.1), each_right program steps answers right all boxes are h.1)

each_right_to : (program : Sections) (steps most : ℕ) (answers : List (List ℕ)) (right : List ℕ → Type 0) (all boxes : List BoundBox)
    → ((bytes : List ℕ) → Contains answers bytes → right bytes)
    → AllByRecursion (λ box. (box.cuts ≤ most → IsWell program steps (Contains answers) box) × (box.cuts < most → IsFollowed program steps all box)) boxes
    → AllByRecursion (λ box. (box.cuts ≤ most → IsWell program steps right box) × (box.cuts < most → IsFollowed program steps all box)) boxes
each_right_to program steps most answers right all [] are h = tt
each_right_to program steps most answers right all (box ∷ boxes) are h =
    ((λ few. well_right program steps answers right box are (h.0.0 few), h.0.1), each_right_to program steps most answers right all boxes are h.1)

-- whatever cuts leave of the images that the boxes cover is answered well
all_answered : (view : JudgeView) (m : ℕ) (most : Option ℕ) (source : Source) (boxes : List BoundBox) (right : RightAnswers) → AreAnswers view source right
    → ((image : List (List ℕ)) → IsCutImage view.start (at_moment view.events m) image → IsCovered boxes 0 image None)
    → AreClosedBoxes view.routine view.steps (Contains right.answers.items) most boxes → AllAnswered view source most m
all_answered view m None source boxes right are starts closed =
    answered view m source boxes starts (each_right view.routine view.steps right.answers.items (IsRightOf view source) boxes boxes are.each closed)
all_answered view m (Some most) source boxes right are starts closed =
    answered_to view m most source boxes starts (each_right_to view.routine view.steps most right.answers.items (IsRightOf view source) boxes boxes are.each closed)

-- what cuts leave of the images of a box
pub left_of_only : (program : Sections) (steps : ℕ) (first second : List (List ℕ) → Type 0) (cuts : ℕ) (left : List (List ℕ)) (shown : Option (List ℕ))
    → ((image : List (List ℕ)) → first image → second image) → IsLeft program steps first cuts left shown → IsLeft program steps second cuts left shown
left_of_only program steps first second zero left shown all (here, none) = (all left here, none)
left_of_only program steps first second (suc cuts) left shown all (before, earlier, was, cut) =
    (before, earlier, left_of_only program steps first second cuts before earlier all was, cut)

pub alone_only : (lines image : List (List ℕ)) → IsIn (map (λ line. line ∷ []) lines) image → image ≡ lines
alone_only [] [] h = refl
alone_only [] (line ∷ image) h = absurd h
alone_only (line ∷ lines) [] h = absurd h
alone_only (line ∷ lines) (other ∷ image) h =
    ap (λ (first : List ℕ). first ∷ image) (only_one line other h.0) ∙ ap (λ (rest : List (List ℕ)). line ∷ rest) (alone_only lines image h.1)

first_reached : (program : Sections) (steps : ℕ) (medium : List (List ℕ)) (images : List (List (List ℕ))) (boxes : List BoundBox)
    → boxes ≡ record { images = images; shown = None; cuts = 0 } ∷ [] → AreReached program steps images boxes
first_reached program steps medium images boxes e =
    subst (λ (bs : List BoundBox). AreReached program steps images bs) (sym e)
    (All-from_recursion (λ (b : BoundBox). AreLeft program steps images b.cuts b.images b.shown) (record { images = images; shown = None; cuts = 0 } ∷ [])
    (λ image h. (h, refl), tt))

-- an image is bad that cuts leave of a medium
bad_from : (program : Sections) (steps : ℕ) (right : RightAnswers) (most : Option ℕ) (medium : List (List ℕ)) (images : List (List (List ℕ))) (old new : List BoundBox)
    (cause : CutCause) → images ≡ map (λ line. line ∷ []) medium → old ≡ record { images = images; shown = None; cuts = 0 } ∷ [] → GrowsBy program steps old new
    → HasBadBox program steps right most new cause → HasBadFrom program steps right most medium cause
bad_from program steps right most medium images old new cause alone e g has =
    let reached = g.reached images (first_reached program steps medium images old e) in
    let left = All-contains (λ (b : BoundBox). AreLeft program steps images b.cuts b.images b.shown) new has.box reached has.among has.bad.image has.bad.inside in record {
      cuts = has.box.cuts;
      allowed = has.allowed;
      image = has.bad.image;
      shown = has.box.shown;
      left = left_of_only program steps (IsIn images) (λ first. first ≡ medium) has.box.cuts has.bad.image has.box.shown
          (λ image h. alone_only medium image (subst (λ (box : List (List (List ℕ))). IsIn box image) alone h)) left;
      is_bad = has.bad.is_bad;
    }

-- the images of a moment lie in one box
pub alone_in : (lines : List (List ℕ)) → IsIn (map (λ line. line ∷ []) lines) lines
alone_in [] = tt
alone_in (line ∷ lines) = ((0, omega arith, refl), alone_in lines)

pub moment_in : (start : List (List ℕ)) (p : List PersistenceStep) (alone left : List (List (List ℕ))) → alone ≡ map (λ line. line ∷ []) start
    → LiesWithin (left_of p alone) left → (image : List (List ℕ)) → IsCutImage start p image → IsIn left image
moment_in start p alone left a w image c =
    let inside : IsIn alone start = subst (λ (box : List (List (List ℕ))). IsIn box start) (sym a) (alone_in start) in
    let here = cut_is_left p alone start (number_in c.cut) (within_from_cut p c.cut c.bounds) inside in
    in_wider (left_of p alone) left image w (subst (λ (lines : List (List ℕ)). IsIn (left_of p alone) lines) (sym c.bytes) here)

pub moment_size : (start : List (List ℕ)) (p : List PersistenceStep) (alone left : List (List (List ℕ))) → alone ≡ map (λ line. line ∷ []) start → LiesWithin left (left_of p alone)
    → length left ≡ length start
moment_size start p alone left a w =
    within_size left (left_of p alone) w ∙ length_left 0 p alone ∙ ap (λ (box : List (List (List ℕ))). length box) a ∙ length-map start (λ (line : List ℕ). line ∷ [])

first_covered : (images : List (List (List ℕ))) (old new : List BoundBox) (image : List (List ℕ)) → old ≡ record { images = images; shown = None; cuts = 0 } ∷ []
    → Grows old new → IsIn images image → IsCovered new 0 image None
first_covered images old new image e g inside =
    covered_grows old new 0 image None g
    (subst (λ (bs : List BoundBox). IsCovered bs 0 image None) (sym e) (inl (record { soon = omega arith; inside = inside; bound = inl refl })))

-- a moment whose images lie in boxes that are closed
pub closed_moment : (view : JudgeView) (m : ℕ) (most : Option ℕ) (source : Source) (right : RightAnswers) (program : Sections) (steps : ℕ) (images : List (List (List ℕ)))
    (old new : List BoundBox) (verdict : BoxVerdict) → verdict ≡ verdicts.Closed → program ≡ view.routine → steps ≡ view.steps → AreAnswers view source right
    → ((image : List (List ℕ)) → IsCutImage view.start (at_moment view.events m) image → IsIn images image)
    → old ≡ record { images = images; shown = None; cuts = 0 } ∷ [] → GrowsBy program steps old new → AreJudgedAgain program steps right most new verdict
    → AllAnswered view source most m
closed_moment view m most source right program steps images old new verdict is own many are inside e g judged =
    let closed = judged_as program view.routine steps view.steps right most new verdicts.Closed own many
    (subst (λ (v : BoxVerdict). AreJudgedAgain program steps right most new v) is judged) in
    all_answered view m most source new right are (λ image at. first_covered images old new image e g.grows (inside image at)) closed

-- a medium of whose boxes one is bad
pub bad_medium : (program : Sections) (steps : ℕ) (right : RightAnswers) (most : Option ℕ) (medium : List (List ℕ)) (images : List (List (List ℕ))) (old new : List BoundBox)
    (verdict : BoxVerdict) (cause : CutCause) → verdict ≡ verdicts.Bad cause → images ≡ map (λ line. line ∷ []) medium
    → old ≡ record { images = images; shown = None; cuts = 0 } ∷ [] → GrowsBy program steps old new → AreJudgedAgain program steps right most new verdict
    → HasBadFrom program steps right most medium cause
bad_medium program steps right most medium images old new verdict cause is alone e g judged =
    bad_from program steps right most medium images old new cause alone e g (subst (λ (v : BoxVerdict). AreJudgedAgain program steps right most new v) is judged)
