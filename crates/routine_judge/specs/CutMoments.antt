-- A moment of a run's events over a medium, and what is found of its images.
use Rattle.std.specs.Prelude.{◌≤◌, ℕ, false, List, Option, Some, None, length}
use Rattle.crash_image.specs.View.{HasLines}
use Rattle.program.specs.Sections.{Sections}
use Rattle.routine_judge.specs.Closing.{HasBadFrom}
use Rattle.routine_judge.specs.CutVerdicts.{IsImageAt}
use Rattle.routine_judge.specs.declared.cuts.judging.CutCause.{CutCause}
use Rattle.routine_judge.specs.declared.cuts.moment.CutMoment.{CutMoment}
use Rattle.routine_judge.specs.declared.right.RightAnswers.{RightAnswers}
use Rattle.text.specs.declared.image_name.name.ImageName.{ImageName}
use Rattle.verdict.specs.declared.moment_verdict.verdict.MomentVerdict.{MomentVerdict}
use Rattle.verdict.specs.declared.moment_verdict.verdict.MomentVerdict.TheVariants as moments

-- the medium has the lines that the events name, and the moment is one of theirs
abbrev pub IsThere : CutMoment → Type 0
IsThere at = HasLines at.medium.now at.trace.now.events × (at.moment ≤ length at.trace.now.events)

-- up to so many cuts in recovery leave an image of the image of this name that is found to be bad
pub record HasBadImage (program : Sections) (steps : ℕ) (right : RightAnswers) (most : Option ℕ) (at : CutMoment) (name : ImageName) (cause : CutCause) : Type 0 where
  pub left : List (List ℕ)
  pub image_at : IsImageAt at.medium.now at.trace.now.events at.moment name left
  pub bad : HasBadFrom program steps right most left cause

-- the verdict on a moment of which an image is bad, by what was found of the least such one
abbrev pub verdict_of : Option (ImageName × CutCause) → MomentVerdict CutCause
verdict_of None = moments.TooMany None
verdict_of (Some (name, cause)) = moments.Fail name cause false
