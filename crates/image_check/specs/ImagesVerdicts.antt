-- The verdict on the images of a source, which has no trace: `image k` is the image of the cut k, and `found` says what is found of an image.
use Rattle.std.specs.Prelude.{ℕ, false, List, Option}
use Rattle.verdict.specs.Branches.{same_number}
use Rattle.verdict.specs.ImagesVerdicts as verdicts
use Rattle.verdict.specs.declared.images_verdict.ImagesVerdict.{ImagesVerdict}
use Rattle.std.specs.Result.{result_ok}
use Rattle.nova_log.specs.Volumes.{volume_of}
use Rattle.plan.specs.declared.operation.Operation.{Operation}
use Rattle.store_trace.specs.declared.event.Event.{Event}
use Rattle.image_check.specs.Images.{IsFound}
use Rattle.image_check.specs.PlanStates.{IsPlanState}
use Rattle.image_check.specs.Verdicts.{are_asked}
use Rattle.image_check.specs.declared.cause.Cause.{Cause}
use Rattle.image_check.specs.declared.plan_state.PlanState.{PlanState}

-- what is found of the image, in each run that leads to this state
abbrev pub IsFoundInState : List Operation → PlanState → List (List ℕ) → Option Cause → Type 0
IsFoundInState plan state medium found = (start : List (List ℕ)) (events : List Event) →
    IsPlanState plan (result_ok (volume_of start)) events state → IsFound plan start events medium found

-- Each image is good, or this is the least bad cut, with a number for each line, and its cause; or there are over 65,536 branches, and then no
-- further image is tried.
abbrev pub IsImagesVerdict : (List (List ℕ) → Option Cause → Type 0) → ℕ → ((ℕ → ℕ) → List (List ℕ)) → (ℕ → ℕ) → (ℕ → ℕ) → ImagesVerdict Cause → Type 0
IsImagesVerdict found lines image low high verdict =
    verdicts.IsImagesVerdict false same_number (λ k. are_asked (image k)) (λ k. found (image k)) low high lines verdict
