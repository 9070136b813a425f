-- What power cuts leave of a moment, also those while recovery runs or after it has ended, and what is right then.
-- Source: durable linearizability (Izraelevitz, Mendes, Scott, DISC 2016): until a recovery has ended nothing was shown, and what it then shows stays.
use Rattle.std.specs.Prelude.{◌≡◌, ◌≢◌, ℕ, ◌≤◌, List, Option, Some, None, Ok}
use Rattle.recovery.specs.Cuts.{AnswersWell, IsLeft}
use Rattle.recovery.specs.Images.{AnswersOn}
use Rattle.store_trace.specs.Cut.{IsCutImage}
use Rattle.store_trace.specs.History.{at_moment}
use Rattle.routine_judge.specs.RightAnswers.{HasCause, HasNoImage, IsBadBy, IsRightOf, IsSource, Source}
use Rattle.routine_judge.specs.Views.{JudgeView}
use Rattle.routine_judge.specs.declared.cuts.judging.CutCause.{CutCause}
use Rattle.routine_judge.specs.declared.cuts.judging.CutCause.TheVariants.{Judged, Changed}

-- a cut at moment m of the run and so many further ones in recovery leave this image, and this was shown until then
abbrev pub Left : JudgeView → ℕ → ℕ → List (List ℕ) → Option (List ℕ) → Type 0
Left view m cuts image shown = IsLeft view.routine view.steps (IsCutImage view.start (at_moment view.events m)) cuts image shown

-- so many cuts in recovery are looked at, where a number is given
abbrev pub IsAllowed : Option ℕ → ℕ → Type 0
IsAllowed None cuts = Unit {0}
IsAllowed (Some most) cuts = cuts ≤ most

-- Whatever the cuts leave, the routine has an answer, it is a right one by this source, and it is the one that was shown where one was.
abbrev pub AllAnswered : JudgeView → Source → Option ℕ → ℕ → Type 0
AllAnswered view source most m = (cuts : ℕ) (image : List (List ℕ)) (shown : Option (List ℕ)) → IsAllowed most cuts → Left view m cuts image shown
    → AnswersWell view.routine view.steps (IsRightOf view source) image shown

-- so it is by the source of the moment's right answers
pub record StaysRight (view : JudgeView) (most : Option ℕ) (m : ℕ) : Type 0 where
  pub source : Source
  pub is_source : IsSource view m source
  pub answers : AllAnswered view source most m

-- the routine's answer on an image is a right one, but another one was shown before
pub record IsChanged (view : JudgeView) (source : Source) (image : List (List ℕ)) (shown : Option (List ℕ)) : Type 0 where
  pub bytes : List ℕ
  pub was : List ℕ
  pub answers : AnswersOn view.routine view.steps image (Ok bytes)
  pub is_right : IsRightOf view source bytes
  pub was_shown : shown ≡ Some was
  pub differs : bytes ≢ was

-- why an image is bad before which this was shown: as the image of a moment would be, or as what was shown hasn't stayed
abbrev pub IsBadAfter : JudgeView → Source → List (List ℕ) → Option (List ℕ) → CutCause → Type 0
IsBadAfter view source image shown (Judged cause) =
    IsBadBy (IsRightOf view source) (HasCause view source) (HasNoImage view source) (AnswersOn view.routine view.steps image) cause
IsBadAfter view source image shown Changed = IsChanged view source image shown
