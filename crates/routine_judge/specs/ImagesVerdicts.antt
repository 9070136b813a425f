-- The verdict on the images of a source by a routine's answers; `image k` is the image of the cut k.
use Rattle.std.specs.Prelude.{ℕ, true, List, Option, Result}
use Rattle.program.specs.Sections.{Sections}
use Rattle.recovery.specs.Images.{AnswersOn, AsksOn, has_same_bytes}
use Rattle.recovery.specs.declared.recovery_run.Cause as run
use Rattle.routine_judge.specs.Gathered.{IsJudgedBy}
use Rattle.routine_judge.specs.declared.cause.Cause.{Cause}
use Rattle.routine_judge.specs.declared.right.RightAnswers.{RightAnswers}
use Rattle.verdict.specs.ImagesVerdicts as verdicts
use Rattle.verdict.specs.declared.images_verdict.ImagesVerdict.{ImagesVerdict}

-- what is found of a medium: what the routine, run on it for so many steps, comes to, judged by these right answers
abbrev pub IsFoundIn : RightAnswers → Sections → ℕ → List (List ℕ) → Option Cause → Type 0
IsFoundIn right program steps medium found = (shown : Result (List ℕ) run.Cause) × AnswersOn program steps medium shown × IsJudgedBy right shown found

-- On each image the routine has a right answer, or this is a bad cut and why; or there are too many branches, by the bytes that the routine asks.
-- Further images are tried then.
abbrev pub IsImagesVerdict : RightAnswers → Sections → ℕ → ℕ → ((ℕ → ℕ) → List (List ℕ)) → (ℕ → ℕ) → (ℕ → ℕ) → ImagesVerdict Cause → Type 0
IsImagesVerdict right program steps lines image low high verdict =
    verdicts.IsImagesVerdict true (has_same_bytes image) (λ k. AsksOn program steps (image k)) (λ k. IsFoundIn right program steps (image k)) low high lines verdict
