-- An image that is found to be bad is so by what makes answers right.
use Rattle.std.proofs.Common.{◌≡◌, ℕ, List, Option, Some, None, Result, Ok, Err, refl, subst}
use Rattle.std.specs.Prelude.{IfSome}
use Rattle.program.specs.Sections.{Sections}
use Rattle.recovery.specs.Images.{AnswersOn}
use Rattle.recovery.specs.declared.recovery_run.Cause as run
use Rattle.routine_judge.proofs.Finding.{found_right}
use Rattle.routine_judge.specs.Closing.{HasBadFrom, IsFoundAgain, IsJudgedAgain}
use Rattle.routine_judge.specs.CutMoments.{HasBadImage, verdict_of}
use Rattle.routine_judge.specs.CutVerdicts.{IsBadFrom, IsImageAt, IsVerdictBy}
use Rattle.routine_judge.specs.CutsInRecovery.{IsBadAfter, IsChanged}
use Rattle.routine_judge.specs.Gathered.{AreAnswers}
use Rattle.routine_judge.specs.RightAnswers.{HasCause, HasNoImage, IsRightOf, RunsOn, Source}
use Rattle.routine_judge.specs.Views.{JudgeView}
use Rattle.routine_judge.specs.declared.cause.Cause.TheVariants.{Missing}
use Rattle.routine_judge.specs.declared.cuts.judging.CutCause.{CutCause}
use Rattle.routine_judge.specs.declared.cuts.judging.CutCause.TheVariants.{Judged, Changed}
use Rattle.routine_judge.specs.declared.cuts.moment.CutMoment.{CutMoment}
use Rattle.routine_judge.specs.declared.right.RightAnswers.{RightAnswers}
use Rattle.store_trace.specs.declared.event.Event.{Event}
use Rattle.text.specs.declared.image_name.name.ImageName.{ImageName}

changed_by : (view : JudgeView) (source : Source) (right : RightAnswers) (image : List (List ℕ)) (shown : Option (List ℕ)) (found : Result (List ℕ) run.Cause)
    → AreAnswers view source right → AnswersOn view.routine view.steps image found → IsJudgedAgain right shown found (Some Changed) → IsChanged view source image shown
changed_by view source right image shown (Err cause) are comes bad =
    absurd (let never : ◌≡◌ {A = Option _} None (Some (Missing cause)) = bad.0 in cc)
changed_by view source right image None (Ok bytes) are comes bad = absurd (bad.1 tt)
changed_by view source right image (Some was) (Ok bytes) are comes bad = record {
  bytes = bytes;
  was = was;
  answers = comes;
  is_right = are.each bytes bad.0;
  was_shown = refl;
  differs = bad.1;
}

-- so it is
pub bad_after : (view : JudgeView) (source : Source) (right : RightAnswers) (image : List (List ℕ)) (shown : Option (List ℕ)) (cause : CutCause) → AreAnswers view source right
    → IsFoundAgain view.routine view.steps right image shown (Some cause) → IsBadAfter view source image shown cause
bad_after view source right image shown (Judged cause) are bad =
    found_right (IsRightOf view source) (HasCause view source) (HasNoImage view source) (RunsOn view source) right (AnswersOn view.routine view.steps image) bad.found
    (Some cause) are bad.answers bad.judged
bad_after view source right image shown Changed are bad = changed_by view source right image shown bad.found are bad.answers bad.judged

pub found_as : (program own : Sections) (steps many : ℕ) (right : RightAnswers) (image : List (List ℕ)) (shown : Option (List ℕ)) (result : Option CutCause) → program ≡ own
    → steps ≡ many → IsFoundAgain program steps right image shown result → IsFoundAgain own many right image shown result
found_as program own steps many right image shown result e f found =
    subst (λ (p : Sections). IsFoundAgain p many right image shown result) e (subst (λ (n : ℕ). IsFoundAgain program n right image shown result) f found)

bad_by : (view : JudgeView) (source : Source) (right : RightAnswers) (most : Option ℕ) (medium : List (List ℕ)) (cause : CutCause) → AreAnswers view source right
    → HasBadFrom view.routine view.steps right most medium cause → IsBadFrom view source most medium cause
bad_by view source right most medium cause are bad = record {
  cuts = bad.cuts;
  allowed = bad.allowed;
  image = bad.image;
  shown = bad.shown;
  left = bad.left;
  bad = bad_after view source right bad.image bad.shown cause are bad.is_bad;
}

image_as : (medium start : List (List ℕ)) (events trace : List Event) (n m : ℕ) (name : ImageName) (left : List (List ℕ)) → medium ≡ start → events ≡ trace → n ≡ m
    → IsImageAt medium events n name left → IsImageAt start trace m name left
image_as medium start events trace n m name left e f g h =
    subst (λ (lines : List (List ℕ)). IsImageAt lines trace m name left) e
    (subst (λ (es : List Event). IsImageAt medium es m name left) f (subst (λ (i : ℕ). IsImageAt medium events i name left) g h))

from_as : (program own : Sections) (steps many : ℕ) (right : RightAnswers) (most : Option ℕ) (medium : List (List ℕ)) (cause : CutCause) → program ≡ own → steps ≡ many
    → HasBadFrom program steps right most medium cause → HasBadFrom own many right most medium cause
from_as program own steps many right most medium cause e f bad =
    subst (λ (p : Sections). HasBadFrom p many right most medium cause) e (subst (λ (n : ℕ). HasBadFrom program n right most medium cause) f bad)

-- the verdict on a moment by what was found of its least image
pub verdict_named : (view : JudgeView) (source : Source) (right : RightAnswers) (most : Option ℕ) (m : ℕ) (at : CutMoment) (program : Sections) (steps : ℕ)
    (found : Option (ImageName × CutCause)) → AreAnswers view source right → program ≡ view.routine → steps ≡ view.steps → at.medium.now ≡ view.start
    → at.trace.now.events ≡ view.events → at.moment ≡ m → IfSome found (λ bad. HasBadImage program steps right most at bad.0 bad.1)
    → IsVerdictBy view source most m (verdict_of found)
verdict_named view source right most m at program steps None are own many start events here bad = tt
verdict_named view source right most m at program steps (Some (name, cause)) are own many start events here bad = record {
  left = bad.left;
  image_at = image_as at.medium.now view.start at.trace.now.events view.events at.moment m name bad.left start events here bad.image_at;
  bad = bad_by view source right most bad.left cause are (from_as program view.routine steps view.steps right most bad.left cause own many bad.bad);
}
