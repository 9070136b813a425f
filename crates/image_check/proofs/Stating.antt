-- A verdict by the outcomes of a state, as one by the state.
use Rattle.std.proofs.Common.{ℕ, false, List, Option}
use Rattle.std.specs.Result.{result_ok}
use Rattle.nova_log.specs.Volumes.{volume_of}
use Rattle.plan.specs.declared.operation.Operation.{Operation}
use Rattle.image_check.specs.Images.{IsFoundBy}
use Rattle.image_check.specs.ImagesVerdicts.{IsFoundInState, IsImagesVerdict}
use Rattle.image_check.specs.declared.cause.Cause.{Cause}
use Rattle.image_check.specs.Verdicts.{are_asked}
use Rattle.image_check.specs.declared.plan_state.PlanState.{PlanState}
use Rattle.image_check.proofs.Following.{apart_state}
use Rattle.verdict.proofs.Meaning.{images_meant}
use Rattle.verdict.specs.Branches.{same_number}
use Rattle.verdict.specs.declared.images_verdict.ImagesVerdict.{ImagesVerdict}

in_state : (plan : List Operation) (state : PlanState) (medium : List (List ℕ)) (found : Option Cause) → IsFoundBy plan state.outcomes medium found →
    IsFoundInState plan state medium found
in_state plan state medium found f = λ start events is. f start events is.outcomes_are (apart_state plan (result_ok (volume_of start)) events state is)

pub stated : (plan : List Operation) (state : PlanState) (lines : ℕ) (image : (ℕ → ℕ) → List (List ℕ)) (low high : ℕ → ℕ) (verdict : ImagesVerdict Cause) →
    IsImagesVerdict (IsFoundBy plan state.outcomes) lines image low high verdict → IsImagesVerdict (IsFoundInState plan state) lines image low high verdict
stated plan state lines image low high verdict v =
    images_meant false same_number (λ k. are_asked (image k)) (λ k. IsFoundBy plan state.outcomes (image k)) (λ k. IsFoundInState plan state (image k)) low high lines verdict
    (λ k found. in_state plan state (image k) found) v
