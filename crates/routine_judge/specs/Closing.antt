-- Boxes that are closed one after the other, by the runs of a routine.
use Rattle.std.specs.Prelude.{◌≡◌, ◌⊎◌, ℕ, ◌+◌, ◌≤◌, ◌++◌, List, Option, None, Some, Result, Ok, Err, All, IfSome, length}
use Rattle.std.specs.List.{Contains}
use Rattle.program.specs.Sections.{Sections}
use Rattle.recovery.specs.Boxes.{IsIn, IsInOne, left_of}
use Rattle.recovery.specs.Closed.{AreClosed, AreClosedTo, BoundBox, IsCovered, IsFollowed, IsWell}
use Rattle.recovery.specs.Cuts.{AnswersWell, IsCutOf, IsLeft, shown_at}
use Rattle.recovery.specs.Images.{AnswersOn}
use Rattle.recovery.specs.Routine.{RoutineView}
use Rattle.recovery.specs.declared.recovery_run.Cause as run
use Rattle.routine_judge.specs.CutsInRecovery.{IsAllowed}
use Rattle.routine_judge.specs.Gathered.{IsJudgedBy}
use Rattle.routine_judge.specs.declared.cuts.closing.BoxVerdict.{BoxVerdict}
use Rattle.routine_judge.specs.declared.cuts.closing.BoxVerdict.TheVariants as verdicts
use Rattle.routine_judge.specs.declared.cuts.closing.Closing.{Closing}
use Rattle.routine_judge.specs.declared.cuts.judging.CutCause.{CutCause}
use Rattle.routine_judge.specs.declared.cuts.judging.CutCause.TheVariants.{Judged, Changed}
use Rattle.routine_judge.specs.declared.cuts.rule.CutRule.{CutRule}
use Rattle.routine_judge.specs.declared.right.RightAnswers.{RightAnswers}
use Rattle.store_trace.specs.History.{at_moment}
use Rattle.store_trace.specs.declared.event.Event.{Event}

-- a list only grows, at its end
abbrev pub Grows : List BoundBox → List BoundBox → Type 0
Grows old new = (more : List BoundBox) × (new ≡ old ++ more)

-- so many cuts in recovery leave each of these images of the images of a box, and this was shown until then
abbrev pub AreLeft : Sections → ℕ → List (List (List ℕ)) → ℕ → List (List (List ℕ)) → Option (List ℕ) → Type 0
AreLeft program steps origin cuts images shown = (image : List (List ℕ)) → IsIn images image → IsLeft program steps (IsIn origin) cuts image shown

-- so they do those of each box
abbrev pub AreReached : Sections → ℕ → List (List (List ℕ)) → List BoundBox → Type 0
AreReached program steps origin boxes = All (λ box. AreLeft program steps origin box.cuts box.images box.shown) boxes

-- a list grows by boxes that are reached where all boxes were
pub record GrowsBy (program : Sections) (steps : ℕ) (old new : List BoundBox) : Type 0 where
  pub grows : Grows old new
  pub reached : (origin : List (List (List ℕ))) → AreReached program steps origin old → AreReached program steps origin new

-- by these images, where they are left
pub record GrowsWith (old new : List BoundBox) (cuts : ℕ) (images : List (List (List ℕ))) (shown : Option (List ℕ)) : Type 0 where
  pub grows : Grows old new
  pub reached : (program : Sections) (steps : ℕ) (origin : List (List (List ℕ))) → AreLeft program steps origin cuts images shown
      → AreReached program steps origin old → AreReached program steps origin new

-- by what is left of a part at the moments of a run
pub record GrowsAfter (old new : List BoundBox) (cuts : ℕ) (part : List (List (List ℕ))) (events : List Event) (found : Result (List ℕ) run.Cause) (shown : Option (List ℕ)) : Type 0 where
  pub grows : Grows old new
  pub reached : (program : Sections) (steps : ℕ) (origin : List (List (List ℕ)))
      → ((m : ℕ) → m ≤ length events → AreLeft program steps origin cuts (left_of (at_moment events m) part) (shown_at m (length events) found shown))
      → AreReached program steps origin old → AreReached program steps origin new

-- by what one cut more leaves of these images
pub record GrowsFrom (program : Sections) (steps : ℕ) (old new : List BoundBox) (cuts : ℕ) (images : List (List (List ℕ))) (shown : Option (List ℕ)) : Type 0 where
  pub grows : Grows old new
  pub reached : (origin : List (List (List ℕ))) (before : ℕ) → cuts ≡ before + 1 → AreLeft program steps origin before images shown
      → AreReached program steps origin old → AreReached program steps origin new

-- each of these images, which so many cuts leave, is covered
abbrev pub AreCovered : List BoundBox → ℕ → List (List (List ℕ)) → Option (List ℕ) → Type 0
AreCovered boxes cuts images shown = (image : List (List ℕ)) → IsIn images image → IsCovered boxes cuts image shown

-- it is an answer, and the one that was shown, where one was
abbrev pub IsAsShown : Option (List ℕ) → Result (List ℕ) run.Cause → Type 0
IsAsShown shown (Ok bytes) = IfSome shown (λ was. bytes ≡ was)
IsAsShown shown (Err cause) = ⊥

-- what the images of a part come to that are left at a moment of a run, with these events, on its images
abbrev pub IsMomentCovered : List BoundBox → ℕ → List (List (List ℕ)) → List Event → Result (List ℕ) run.Cause → Option (List ℕ) → ℕ → Type 0
IsMomentCovered boxes cuts part events found shown moment =
    AreCovered boxes cuts (left_of (at_moment events moment) part) (shown_at moment (length events) found shown)

-- what is found of an image before which this was shown, on which the routine comes to this
abbrev pub IsJudgedAgain : RightAnswers → Option (List ℕ) → Result (List ℕ) run.Cause → Option CutCause → Type 0
IsJudgedAgain right shown found None = IsJudgedBy right found None × IsAsShown shown found
IsJudgedAgain right shown found (Some (Judged cause)) = IsJudgedBy right found (Some cause)
IsJudgedAgain right shown found (Some Changed) = IsJudgedBy right found None × (¬ IsAsShown shown found)

-- on an image the routine answers well, and what a further cut leaves of it is covered, where so many cuts are looked at
pub record IsDone (program : Sections) (steps : ℕ) (right : List (List ℕ)) (most : Option ℕ) (boxes : List BoundBox) (cuts : ℕ) (shown : Option (List ℕ)) (image : List (List ℕ)) : Type 0 where
  pub well : AnswersWell program steps (Contains right) image shown
  pub followed : IsAllowed most cuts → (left : List (List ℕ)) (then_shown : Option (List ℕ)) → IsCutOf program steps image shown left then_shown
      → IsCovered boxes cuts left then_shown

-- this is found of an image before which this was shown, by what the routine comes to on it
pub record IsFoundAgain (program : Sections) (steps : ℕ) (right : RightAnswers) (image : List (List ℕ)) (shown : Option (List ℕ)) (result : Option CutCause) : Type 0 where
  pub found : Result (List ℕ) run.Cause
  pub answers : AnswersOn program steps image found
  pub judged : IsJudgedAgain right shown found result

-- one of these images is found to be bad
pub record HasBad (program : Sections) (steps : ℕ) (right : RightAnswers) (images : List (List (List ℕ))) (shown : Option (List ℕ)) (cause : CutCause) : Type 0 where
  pub image : List (List ℕ)
  pub inside : IsIn images image
  pub is_bad : IsFoundAgain program steps right image shown (Some cause)

-- of these images those that aren't pending any more are done, or one is bad
abbrev pub IsPartClosed : Sections → ℕ → RightAnswers → Option ℕ → List BoundBox → ℕ → Option (List ℕ) → List (List (List ℕ)) → List (List (List (List ℕ))) → Option CutCause → Type 0
IsPartClosed program steps right most boxes cuts shown images pending None = (image : List (List ℕ)) → IsIn images image →
    IsInOne pending image ⊎ IsDone program steps right.answers.items most boxes cuts shown image
IsPartClosed program steps right most boxes cuts shown images pending (Some cause) = HasBad program steps right images shown cause

-- of some images those that are left to be looked at went to a list of pending ones
abbrev pub IsPending : List (List (List ℕ)) → List (List (List (List ℕ))) → List (List (List (List ℕ))) → Type 0
IsPending images old new = ((image : List (List ℕ)) → IsInOne old image → IsInOne new image)
    × ((image : List (List ℕ)) → IsInOne new image → IsInOne old image ⊎ IsIn images image)

-- boxes have images of so many lines
abbrev pub AreOfLines : ℕ → List (List (List (List ℕ))) → Type 0
AreOfLines lines boxes = All (λ box. length box ≡ lines) boxes

-- a box is closed by this rule
abbrev pub IsBy : CutRule → Closing → Type 0
IsBy rule closing = (closing.rule.right.now ≡ rule.right.now) × (closing.rule.steps ≡ rule.steps) × (closing.rule.most ≡ rule.most)

-- what comes of a part of these images: it is closed or bad, and the others are pending too
pub record IsPartMade (program : Sections) (closing : Closing) (lines : ℕ) (boxes : List BoundBox) (images : List (List (List ℕ))) (old new : List (List (List (List ℕ)))) (found : Option CutCause) : Type 0 where
  pub closed : IsPartClosed program closing.rule.steps closing.rule.right.now closing.rule.most boxes closing.bound.cuts closing.bound.shown images new found
  pub moved : IsPending images old new
  pub sizes : AreOfLines lines new

-- a box is closed: all is well in it, and no cut leads out of the boxes, where the boxes that up to so many cuts leave are looked at, or all
abbrev pub IsClosedBox : Sections → ℕ → (List ℕ → Type 0) → Option ℕ → List BoundBox → BoundBox → Type 0
IsClosedBox program steps right most boxes box = (IsAllowed most box.cuts → IsWell program steps right box)
    × (IsAllowed most (box.cuts + 1) → IsFollowed program steps boxes box)

-- so it is, or it is bad
abbrev pub IsClosedVerdict : Sections → ℕ → RightAnswers → Option ℕ → List BoundBox → BoundBox → BoxVerdict → Type 0
IsClosedVerdict program steps right most boxes box verdicts.Closed = IsClosedBox program steps (Contains right.answers.items) most boxes box
IsClosedVerdict program steps right most boxes box (verdicts.Bad cause) = IsAllowed most box.cuts × HasBad program steps right box.images box.shown cause
IsClosedVerdict program steps right most boxes box verdicts.TooMany = Unit {0}

-- so are all boxes, or one is bad
abbrev pub AreClosedBoxes : Sections → ℕ → (List ℕ → Type 0) → Option ℕ → List BoundBox → Type 0
AreClosedBoxes program steps right None boxes = AreClosed program steps right boxes
AreClosedBoxes program steps right (Some most) boxes = AreClosedTo program steps right most boxes

-- a list has a box that so many cuts may leave, with an image on which the routine comes to what is found to be bad
pub record HasBadBox (program : Sections) (steps : ℕ) (right : RightAnswers) (most : Option ℕ) (boxes : List BoundBox) (cause : CutCause) : Type 0 where
  pub box : BoundBox
  pub among : Contains boxes box
  pub allowed : IsAllowed most box.cuts
  pub bad : HasBad program steps right box.images box.shown cause

abbrev pub AreJudgedAgain : Sections → ℕ → RightAnswers → Option ℕ → List BoundBox → BoxVerdict → Type 0
AreJudgedAgain program steps right most boxes verdicts.Closed = AreClosedBoxes program steps (Contains right.answers.items) most boxes
AreJudgedAgain program steps right most boxes (verdicts.Bad cause) = HasBadBox program steps right most boxes cause
AreJudgedAgain program steps right most boxes verdicts.TooMany = Unit {0}

-- up to so many cuts in recovery leave an image of a medium, before which nothing was shown, that is found to be bad
pub record HasBadFrom (program : Sections) (steps : ℕ) (right : RightAnswers) (most : Option ℕ) (medium : List (List ℕ)) (cause : CutCause) : Type 0 where
  pub cuts : ℕ
  pub allowed : IsAllowed most cuts
  pub image : List (List ℕ)
  pub shown : Option (List ℕ)
  pub left : IsLeft program steps (λ first. first ≡ medium) cuts image shown
  pub is_bad : IsFoundAgain program steps right image shown (Some cause)

-- a routine is as it was, but for what its last run asked
abbrev pub IsSame : RoutineView → RoutineView → Type 0
IsSame old new = (new.program ≡ old.program) × (new.lines ≡ old.lines)
