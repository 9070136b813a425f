-- The verdict on a moment with power cuts in recovery.
-- Source: Vinter, USENIX ATC 2022 (every crash image is recovered, and the state that shows is judged), and durable linearizability for images of images.
use Rattle.std.specs.Prelude.{◌≡◌, ◌⊎◌, ◌≤◌, ℕ, true, false, List, Option, Some, None, length}
use Rattle.crash_image.specs.Named.{IsNameOf}
use Rattle.recovery.specs.Cuts.{IsLeft}
use Rattle.routine_judge.specs.CutsInRecovery.{AllAnswered, IsAllowed, IsBadAfter}
use Rattle.routine_judge.specs.RightAnswers.{IsSource, RunsOn, Source}
use Rattle.routine_judge.specs.Views.{JudgeView}
use Rattle.routine_judge.specs.declared.cuts.judging.CutCause.{CutCause}
use Rattle.store_trace.specs.Cut.{IsCut, number_in}
use Rattle.store_trace.specs.History.{at_moment}
use Rattle.store_trace.specs.Image.{image}
use Rattle.store_trace.specs.declared.event.Event.{Event}
use Rattle.text.specs.declared.image_name.name.ImageName.{ImageName}
use Rattle.verdict.specs.declared.moment_verdict.verdict.MomentVerdict.{MomentVerdict}
use Rattle.verdict.specs.declared.moment_verdict.verdict.MomentVerdict.TheVariants as moments

-- of a medium, before which nothing was shown, up to so many cuts in recovery leave an image that is bad with this cause
pub record IsBadFrom (view : JudgeView) (source : Source) (most : Option ℕ) (medium : List (List ℕ)) (cause : CutCause) : Type 0 where
  pub cuts : ℕ
  pub allowed : IsAllowed most cuts
  pub image : List (List ℕ)
  pub shown : Option (List ℕ)
  pub left : IsLeft view.routine view.steps (λ first. first ≡ medium) cuts image shown
  pub bad : IsBadAfter view source image shown cause

-- the image of this name at moment m of these events over a medium
pub record IsImageAt (medium : List (List ℕ)) (events : List Event) (m : ℕ) (name : ImageName) (left : List (List ℕ)) : Type 0 where
  pub there : m ≤ length events
  pub cut : List (ℕ × ℕ)
  pub is_cut : IsCut (at_moment events m) cut
  pub named : IsNameOf (at_moment events m) cut name
  pub leaves : left ≡ image medium (number_in cut) (at_moment events m)

-- so they do of the image of this name at moment m
pub record IsBadName (view : JudgeView) (source : Source) (most : Option ℕ) (m : ℕ) (name : ImageName) (cause : CutCause) : Type 0 where
  pub left : List (List ℕ)
  pub image_at : IsImageAt view.start view.events m name left
  pub bad : IsBadFrom view source most left cause

-- the verdict on moment m, where its right answers come from there
abbrev pub IsVerdictBy : JudgeView → Source → Option ℕ → ℕ → MomentVerdict CutCause → Type 0
IsVerdictBy view source most m moments.Pass = AllAnswered view source most m
IsVerdictBy view source most m (moments.Fail name cause false) = IsBadName view source most m name cause
IsVerdictBy view source most m (moments.Fail name cause true) = ⊥
IsVerdictBy view source most m (moments.TooMany None) = Unit {0}
IsVerdictBy view source most m (moments.TooMany (Some named)) = ⊥
IsVerdictBy view source most m moments.TooLong = ⊥

-- Where the routine runs on on a full image that would give a right answer, the moment is too long.
pub record IsJudgedWith (most : Option ℕ) (view : JudgeView) (m : ℕ) (verdict : MomentVerdict CutCause) : Type 0 where
  pub source : Source
  pub is_source : IsSource view m source
  pub judged : ((verdict ≡ moments.TooLong) × RunsOn view source) ⊎ ((¬ RunsOn view source) × IsVerdictBy view source most m verdict)
