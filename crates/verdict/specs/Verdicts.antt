-- The verdicts on a moment and on a row of moments, whatever judges an image. Cuts of whose images recovery asks the same bytes, and
-- finds them alike, share a branch; a moment with over 65,536 branches isn't judged.
-- `asks c questions` says which bytes recovery asks of the image of the cut c, `alike q n m` whether those of question q are the same for
-- it after n of the line's stores as after m, and `found c cause` what is found of the image: its cause where it is bad, and None where it
-- is good.
-- Source: Vinter, USENIX ATC 2022: every crash image is recovered, and the state that shows is judged.
use Rattle.std.specs.Prelude.{◌≡◌, ℕ, ◌+◌, ◌<◌, ◌≤◌, Bool, true, false, List, Option, Some, None}
use Rattle.std.specs.List.{AllByRecursion}
use Rattle.verdict.specs.Branches.{AreOver, IsWithin}
use Rattle.verdict.specs.Contents.{AreWidest}
use Rattle.verdict.specs.Edges.{AreTried}
use Rattle.verdict.specs.Numbers.{is_flagged}
use Rattle.crash_image.specs.Named.{IsNameOf}
use Rattle.crash_image.specs.Totals.{IsImageSum, sum_of}
use Rattle.store_trace.specs.Cut.{IsBefore, IsCut, number_in}
use Rattle.store_trace.specs.Floor.{floor}
use Rattle.store_trace.specs.Stores.{stores}
use Rattle.store_trace.specs.declared.crash_model.step.PersistenceStep.{PersistenceStep}
use Rattle.store_trace.specs.declared.event.Event.{Event}
use Rattle.verdict.specs.declared.branches.question.Question.{Question}
use Rattle.verdict.specs.declared.moment_verdict.contents.LineContents.{LineContents}
use Rattle.verdict.specs.declared.moment_verdict.verdict.MomentVerdict.{MomentVerdict}
use Rattle.verdict.specs.declared.moment_verdict.verdict.MomentVerdict.TheVariants as moments
use Rattle.verdict.specs.declared.moment_verdict.verdict.OpenMoments.{OpenMoments}
use Rattle.verdict.specs.declared.moment_verdict.verdict.Verdict.{Verdict}
use Rattle.verdict.specs.declared.moment_verdict.verdict.Verdict.TheVariants as runs

-- there are over 65,536 branches after these persistence steps
abbrev pub HasManyBranches : (Question → ℕ → ℕ → Bool) → ((ℕ → ℕ) → List Question → Type 0) → List PersistenceStep → Type 0
HasManyBranches alike asks p = AreOver alike asks (λ l. floor l p) (λ l. stores l p) 65536

-- every line that recovery asks of an image of these steps is flagged
abbrev pub AreFlagged : ((ℕ → ℕ) → List Question → Type 0) → List PersistenceStep → List Bool → Type 0
AreFlagged asks p flags = (k : ℕ → ℕ) → IsWithin (λ l. floor l p) (λ l. stores l p) k → (questions : List Question) → asks k questions →
    AllByRecursion (λ q. is_flagged q.line flags ≡ true) questions

-- the image of every cut is good
abbrev pub AreGood : {Cause : Type 0} → ((ℕ → ℕ) → Option Cause → Type 0) → List PersistenceStep → Type 0
AreGood found p = (cut : List (ℕ × ℕ)) → IsCut p cut → found (number_in cut) None

-- a bad cut and its cause
abbrev pub IsBad : {Cause : Type 0} → ((ℕ → ℕ) → Option Cause → Type 0) → List PersistenceStep → List (ℕ × ℕ) → Cause → Type 0
IsBad found p cut cause = IsCut p cut × found (number_in cut) (Some cause)

-- these are the widest of lines whose edge images are good
abbrev pub AreNamed : {Cause : Type 0} → (Question → ℕ → ℕ → Bool) → ((ℕ → ℕ) → List Question → Type 0) → ((ℕ → ℕ) → Option Cause → Type 0) →
    List PersistenceStep → List LineContents → Type 0
AreNamed alike asks found p named = (lines : List ℕ) × AreTried asks found (λ l. floor l p) (λ l. stores l p) lines
    × AreWidest alike (λ l. floor l p) (λ l. stores l p) lines named

-- the least bad cut, in the order of cuts, and its cause
pub record IsLeastBad {Cause : Type 0} (found : (ℕ → ℕ) → Option Cause → Type 0) (p : List PersistenceStep) (cut : List (ℕ × ℕ)) (cause : Cause) : Type 0 where
  pub there : IsCut p cut
  pub bad : found (number_in cut) (Some cause)
  pub least : (other : List (ℕ × ℕ)) → IsCut p other → IsBefore other cut → found (number_in other) None

-- the verdict on the moment after these persistence steps; `further` says whether further images are tried where there are too many branches
abbrev pub IsMomentVerdict : {Cause : Type 0} → Bool → (Question → ℕ → ℕ → Bool) → ((ℕ → ℕ) → List Question → Type 0) → ((ℕ → ℕ) → Option Cause → Type 0) →
    List PersistenceStep → MomentVerdict Cause → Type 0
IsMomentVerdict further alike asks found p moments.Pass = (¬ HasManyBranches alike asks p) × AreGood found p
IsMomentVerdict further alike asks found p (moments.Fail name cause false) = (¬ HasManyBranches alike asks p)
    × ((cut : List (ℕ × ℕ)) × IsNameOf p cut name × IsLeastBad found p cut cause)
IsMomentVerdict further alike asks found p (moments.Fail name cause true) = HasManyBranches alike asks p × (further ≡ true)
    × ((cut : List (ℕ × ℕ)) × IsNameOf p cut name × IsBad found p cut cause)
IsMomentVerdict further alike asks found p (moments.TooMany None) = HasManyBranches alike asks p × (further ≡ false)
IsMomentVerdict further alike asks found p (moments.TooMany (Some named)) = HasManyBranches alike asks p × (further ≡ true)
    × AreNamed alike asks found p named
IsMomentVerdict further alike asks found p moments.TooLong = ⊥

-- the claim holds where the moment passes
abbrev pub IfPassed : {Cause : Type 0} → MomentVerdict Cause → Type 0 → Type 0
IfPassed moments.Pass claim = claim
IfPassed (moments.Fail name cause of_too_many) claim = Unit {0}
IfPassed (moments.TooMany named) claim = Unit {0}
IfPassed moments.TooLong claim = Unit {0}

-- the moments from `first` on that are below `end` pass, where `judged m` says which verdict there is on moment m
abbrev pub PassBetween : {Cause : Type 0} → (ℕ → MomentVerdict Cause → Type 0) → ℕ → ℕ → Type 0
PassBetween judged first end = (m : ℕ) → first ≤ m → m < end → judged m moments.Pass

-- of the moments from `first` on that are below `end`, this is the least that doesn't pass, and its verdict
pub record IsLeastMoment {Cause : Type 0} (judged : ℕ → MomentVerdict Cause → Type 0) (first end moment : ℕ) (verdict : MomentVerdict Cause) : Type 0 where
  pub from : first ≤ moment
  pub there : moment < end
  pub passed : PassBetween judged first moment
  pub here : judged moment verdict

-- the verdict on these moments; a pass has their number and the sum of the numbers of their images, unless one of them has over 65,536
abbrev pub IsVerdictBetween : {Cause : Type 0} → (ℕ → MomentVerdict Cause → Type 0) → List Event → ℕ → ℕ → Verdict Cause → Type 0
IsVerdictBetween judged events first end (runs.Pass moments images) =
    (first + moments ≡ end) × IsImageSum events first end images × PassBetween judged first end
IsVerdictBetween judged events first end (runs.Open moments images told) = ⊥
IsVerdictBetween judged events first end (runs.Fail moment name cause of_too_many) = IsLeastMoment judged first end moment (moments.Fail name cause of_too_many)
IsVerdictBetween judged events first end (runs.TooMany moment named) = IsLeastMoment judged first end moment (moments.TooMany named)
IsVerdictBetween judged events first end (runs.TooLong moment) = IsLeastMoment judged first end moment moments.TooLong

-- the open moments of two rows
abbrev pub both_open : OpenMoments → OpenMoments → OpenMoments
both_open one other = record { count = one.count + other.count; first = one.first }

-- the verdict on two rows of moments, of which the second begins where the first ends
abbrev pub joined : {Cause : Type 0} → Verdict Cause → Verdict Cause → Verdict Cause
joined (runs.Pass moments images) (runs.Pass more others) = runs.Pass (moments + more) (sum_of images others)
joined (runs.Pass moments images) (runs.Open more others told) = runs.Open (moments + more) (sum_of images others) told
joined (runs.Pass moments images) (runs.Fail moment name cause of_too_many) = runs.Fail moment name cause of_too_many
joined (runs.Pass moments images) (runs.TooMany moment named) = runs.TooMany moment named
joined (runs.Pass moments images) (runs.TooLong moment) = runs.TooLong moment
joined (runs.Open moments images told) (runs.Pass more others) = runs.Open (moments + more) (sum_of images others) told
joined (runs.Open moments images told) (runs.Open more others further) = runs.Open (moments + more) (sum_of images others) (both_open told further)
joined (runs.Open moments images told) (runs.Fail moment name cause of_too_many) = runs.Fail moment name cause of_too_many
joined (runs.Open moments images told) (runs.TooMany moment named) = runs.TooMany moment named
joined (runs.Open moments images told) (runs.TooLong moment) = runs.TooLong moment
joined (runs.Fail moment name cause of_too_many) other = runs.Fail moment name cause of_too_many
joined (runs.TooMany moment named) other = runs.TooMany moment named
joined (runs.TooLong moment) other = runs.TooLong moment
