-- What right answers say of an image, by what makes them right.
use Rattle.std.proofs.Common.{◌≡◌, ℕ, true, List, [], ◌∷◌, arith, refl, subst, sym, Option, Some, None, Result, Ok, Err}
use Rattle.std.specs.List.{Contains}
use Rattle.std.specs.Prelude.{IfSome}
use Rattle.program.specs.Sections.{Sections}
use Rattle.recovery.specs.Images.{AnswersOn, AsksOn, has_same_bytes}
use Rattle.recovery.specs.declared.recovery_run.Cause as run
use Rattle.routine_judge.proofs.Gathering.{none_in}
use Rattle.routine_judge.specs.Gathered.{AreAnswers, AreRight, IsJudgedBy}
use Rattle.routine_judge.specs.ImagesVerdicts.{IsFoundIn, IsImagesVerdict}
use Rattle.routine_judge.specs.RightAnswers.{HasCause, HasNoImage, IsFoundBy, IsFoundOf, IsRightOf, RunsOn, Shows, Source}
use Rattle.routine_judge.specs.Views.{JudgeView}
use Rattle.routine_judge.specs.declared.cause.Cause.{Cause}
use Rattle.routine_judge.specs.declared.cause.Cause.TheVariants.{Missing, Different, Full, Unmatched}
use Rattle.routine_judge.specs.declared.right.RightAnswers.{RightAnswers}
use Rattle.verdict.proofs.Meaning.{images_meant}
use Rattle.verdict.specs.CutImages.{image_at}
use Rattle.verdict.specs.ImagesVerdicts as verdicts
use Rattle.verdict.specs.declared.images_verdict.ImagesVerdict.{ImagesVerdict}

some_answer : (right : List ℕ → Type 0) (xs : List (List ℕ)) → ((b : List ℕ) → Contains xs b → right b) → ¬ (xs ≡ []) → (b : List ℕ) × right b
some_answer right [] each n = absurd (n refl)
some_answer right (x ∷ xs) each n = (x, each x (0, (omega arith), refl))

pub found_right : (right : List ℕ → Type 0) (missing : run.Cause → Type 0) (no_image runs_on : Type 0) (answers : RightAnswers)
    (shows : Result (List ℕ) run.Cause → Type 0) (shown : Result (List ℕ) run.Cause) (found : Option Cause) → AreRight right missing no_image runs_on answers →
    shows shown → IsJudgedBy answers shown found → IsFoundBy right missing no_image shows found
found_right right missing no_image runs_on answers shows (Err cause) found are here j =
    subst (λ (o : Option Cause). IsFoundBy right missing no_image shows o) (sym j) here
found_right right missing no_image runs_on answers shows (Ok bytes) None are here j = (bytes, here, are.each bytes j)
found_right right missing no_image runs_on answers shows (Ok bytes) (Some (Missing cause)) are here j = absurd j
found_right right missing no_image runs_on answers shows (Ok bytes) (Some Different) are here j =
    (bytes, here, λ r. j.0 (are.all bytes r), some_answer right answers.answers.items are.each j.1)
found_right right missing no_image runs_on answers shows (Ok bytes) (Some (Full cause)) are here j = (
  bytes,
  here,
  λ other r. none_in answers.answers.items other j.0 (are.all other r),
  subst (λ (o : Option run.Cause). IfSome o missing) j.1 (are.cause j.0),
)
found_right right missing no_image runs_on answers shows (Ok bytes) (Some Unmatched) are here j = (bytes, here, are.none j.0 j.1)

pub found_of : (view : JudgeView) (source : Source) (m : ℕ) (right : RightAnswers) → AreAnswers view source right → (k : ℕ → ℕ) (found : Option Cause) →
    IsFoundIn right view.routine view.steps (image_at view.start view.events m k) found → IsFoundOf view source m k found
found_of view source m right are k found f =
    found_right (IsRightOf view source) (HasCause view source) (HasNoImage view source) (RunsOn view source) right (Shows view m k) f.0 found are f.1 f.2

-- so a verdict by the answers is one by what makes them right
pub images_right : (right : List ℕ → Type 0) (missing : run.Cause → Type 0) (no_image runs_on : Type 0) (answers : RightAnswers) (program : Sections)
    (steps lines : ℕ) (image : (ℕ → ℕ) → List (List ℕ)) (low high : ℕ → ℕ) (verdict : ImagesVerdict Cause) →
    AreRight right missing no_image runs_on answers → IsImagesVerdict answers program steps lines image low high verdict →
    verdicts.IsImagesVerdict true (has_same_bytes image) (λ k. AsksOn program steps (image k))
    (λ k. IsFoundBy right missing no_image (AnswersOn program steps (image k))) low high lines verdict
images_right right missing no_image runs_on answers program steps lines image low high verdict are v =
    images_meant true (has_same_bytes image) (λ k. AsksOn program steps (image k)) (λ k. IsFoundIn answers program steps (image k))
    (λ k. IsFoundBy right missing no_image (AnswersOn program steps (image k))) low high lines verdict
    (λ k found f. found_right right missing no_image runs_on answers (AnswersOn program steps (image k)) f.0 found are f.1 f.2) v
