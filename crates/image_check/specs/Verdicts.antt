-- The verdicts on a moment and on a run. Cuts of whose images recovery asks the same lines, whole ones, and finds the same numbers of
-- stores there, share a branch; a moment with over 65,536 branches isn't judged.
-- Source: Vinter, USENIX ATC 2022: every crash image is recovered, and the state that shows is judged.
use Rattle.std.specs.Prelude.{◌≡◌, ℕ, ◌+◌, ◌-◌, ◌^◌, ◌<◌, ◌≤◌, Bool, List, Option, length, map, take, false}
use Rattle.store_trace.specs.Image.{image}
use Rattle.store_trace.specs.declared.crash_model.step.PersistenceStep.{PersistenceStep}
use Rattle.verdict.specs.Branches.{question, same_number}
use Rattle.verdict.specs.Verdicts as verdicts
use Rattle.verdict.specs.declared.branches.question.Question.{Question}
use Rattle.verdict.specs.declared.moment_verdict.verdict.MomentVerdict.{MomentVerdict}
use Rattle.verdict.specs.declared.moment_verdict.verdict.Verdict.{Verdict}
use Rattle.nova_log.specs.Volumes.{asked_lines}
use Rattle.plan.specs.declared.operation.Operation.{Operation}
use Rattle.store_trace.specs.History.{history}
use Rattle.store_trace.specs.declared.event.Event.{Event}
pub use Rattle.image_check.specs.Images.{ArePassed, IsBad, Passes}
use Rattle.image_check.specs.Images.{IsFound}
use Rattle.image_check.specs.OrderFaults.{AreSound, IsFirstFault}
use Rattle.image_check.specs.declared.fault.CheckFault.{CheckFault}
use Rattle.image_check.specs.declared.fault.CheckFault.TheVariants as refused
use Rattle.image_check.specs.declared.cause.Cause.{Cause}

-- all bytes of a line
abbrev pub whole_line : ℕ → Question
whole_line l = question l (2 ^ 64 - 1)

-- of the image recovery asks these lines, in this order
abbrev pub are_asked : List (List ℕ) → List Question → Type 0
are_asked medium questions = questions ≡ map whole_line (asked_lines medium)

-- the same of the image of the cut k
abbrev pub asks_at : List (List ℕ) → List PersistenceStep → (ℕ → ℕ) → List Question → Type 0
asks_at start p k questions = are_asked (image start k p) questions

-- what is found of it: that it is good, or why it isn't
abbrev pub found_at : List Operation → List (List ℕ) → List Event → (ℕ → ℕ) → Option Cause → Type 0
found_at plan start events k found = IsFound plan start events (image start k (history events)) found

-- there are over 65,536 branches
abbrev pub HasManyBranches : List (List ℕ) → List PersistenceStep → Type 0
HasManyBranches start p = verdicts.HasManyBranches same_number (asks_at start p) p

-- every line that recovery asks of an image of these steps is flagged
abbrev pub AreFlagged : List (List ℕ) → List PersistenceStep → List Bool → Type 0
AreFlagged start p flags = verdicts.AreFlagged (asks_at start p) p flags

-- the least bad cut, in the order of cuts, and its cause
abbrev pub IsLeastBad : List Operation → List (List ℕ) → List Event → List (ℕ × ℕ) → Cause → Type 0
IsLeastBad plan start events cut cause = verdicts.IsLeastBad (found_at plan start events) (history events) cut cause

-- the verdict on the moment after these events
abbrev pub IsMomentVerdict : List Operation → List (List ℕ) → List Event → MomentVerdict Cause → Type 0
IsMomentVerdict plan start events verdict =
    verdicts.IsMomentVerdict false same_number (asks_at start (history events)) (found_at plan start events) (history events) verdict

-- the verdict on moment m of these events
abbrev pub judged_at : List Operation → List (List ℕ) → List Event → ℕ → MomentVerdict Cause → Type 0
judged_at plan start events m verdict = IsMomentVerdict plan start (take m events) verdict

-- the moments from `first` on that are below `end` pass
abbrev pub PassBetween : List Operation → List (List ℕ) → List Event → ℕ → ℕ → Type 0
PassBetween plan start events first end = verdicts.PassBetween (judged_at plan start events) first end

-- the verdict on these moments; a pass has their number and the sum of the numbers of their images, unless one of them has over 65,536
abbrev pub IsVerdictBetween : List Operation → List (List ℕ) → List Event → ℕ → ℕ → Verdict Cause → Type 0
IsVerdictBetween plan start events first end verdict = verdicts.IsVerdictBetween (judged_at plan start events) events first end verdict

-- the verdict on all moments
abbrev pub IsVerdict : List Operation → List (List ℕ) → List Event → Verdict Cause → Type 0
IsVerdict plan start events verdict = IsVerdictBetween plan start events 0 (length events + 1) verdict

-- why a check of this moment is refused: a wrong mark first, then a moment that isn't there, and memory last
abbrev pub IsRefusal : List Operation → List Event → ℕ → CheckFault → Type 0
IsRefusal plan events moment (refused.Operation fault) = IsFirstFault plan events fault
IsRefusal plan events moment refused.NoSuchMoment = AreSound plan events (length events) × (length events < moment)
IsRefusal plan events moment refused.Memory = AreSound plan events (length events) × (moment ≤ length events)
