-- The verdict on a row of moments where judging may go on behind those with too many branches: these are open, and counted.
-- This project's own.
use Rattle.std.specs.Prelude.{◌≡◌, ◌⊎◌, ℕ, suc, ◌-◌, ◌<◌, ◌≤◌, ◌++◌, Bool, true, false, List, [], ◌∷◌, Option, Some, None, length}
use Rattle.store_trace.specs.declared.event.Event.{Event}
use Rattle.verdict.specs.Verdicts.{IsVerdictBetween, PassBetween, both_open}
use Rattle.verdict.specs.declared.moment_verdict.contents.LineContents.{LineContents}
use Rattle.verdict.specs.declared.moment_verdict.verdict.MomentVerdict.{MomentVerdict}
use Rattle.verdict.specs.declared.moment_verdict.verdict.MomentVerdict.TheVariants as moments
use Rattle.verdict.specs.declared.moment_verdict.verdict.OpenMoments.{OpenMoments}
use Rattle.verdict.specs.declared.moment_verdict.verdict.Verdict.{Verdict}
use Rattle.verdict.specs.declared.moment_verdict.verdict.Verdict.TheVariants as runs
use Rattle.verdict.specs.declared.progress.Row.{Row}
use Rattle.verdict.specs.declared.progress.Row.TheVariants.{Settled, Ends}

-- the moment has too many branches
abbrev pub HasTooMany : {Cause : Type 0} → (ℕ → MomentVerdict Cause → Type 0) → ℕ → Type 0
HasTooMany judged m = (named : Option (List LineContents)) × judged m (moments.TooMany named)

-- Which verdict there is on a moment where judging goes on, if it does: behind one with too many branches as behind one that passes.
abbrev pub settled : {Cause : Type 0} → Bool → (ℕ → MomentVerdict Cause → Type 0) → ℕ → MomentVerdict Cause → Type 0
settled goes_on judged m moments.Pass = judged m moments.Pass ⊎ ((goes_on ≡ true) × HasTooMany judged m)
settled goes_on judged m (moments.Fail name cause of_too_many) = judged m (moments.Fail name cause of_too_many)
settled goes_on judged m (moments.TooMany named) = (goes_on ≡ false) × judged m (moments.TooMany named)
settled goes_on judged m moments.TooLong = judged m moments.TooLong

-- The moments with too many branches among those from `first` on that are below a bound, upwards, where each other one passes.
pub data AreOpen {Cause : Type 0} (judged : ℕ → MomentVerdict Cause → Type 0) (first : ℕ) : ℕ → List ℕ → Type 0 where
  nothing : AreOpen judged first first []
  passes : (m : ℕ) (found : List ℕ) → AreOpen judged first m found → judged m moments.Pass → AreOpen judged first (suc m) found
  too_many : (m : ℕ) (found : List ℕ) → AreOpen judged first m found → HasTooMany judged m → AreOpen judged first (suc m) (found ++ m ∷ [])

-- how many they are, and the least of them; None where there is none
abbrev pub open_of : List ℕ → Option OpenMoments
open_of [] = None
open_of (m ∷ found) = Some (record { count = suc (length found); first = m })

-- what is told of the moments with too many branches in this row
abbrev pub IsOpenOf : {Cause : Type 0} → (ℕ → MomentVerdict Cause → Type 0) → ℕ → ℕ → Option OpenMoments → Type 0
IsOpenOf judged first end told = (found : List ℕ) × AreOpen judged first end found × (told ≡ open_of found)

-- the verdict on these moments
abbrev pub IsVerdictOn : {Cause : Type 0} → Bool → (ℕ → MomentVerdict Cause → Type 0) → List Event → ℕ → ℕ → Verdict Cause → Type 0
IsVerdictOn goes_on judged events first end (runs.Pass moments images) = IsVerdictBetween judged events first end (runs.Pass moments images)
IsVerdictOn goes_on judged events first end (runs.Open moments images told) =
    IsVerdictBetween (settled goes_on judged) events first end (runs.Pass moments images) × IsOpenOf judged first end (Some told)
IsVerdictOn goes_on judged events first end (runs.Fail moment name cause of_too_many) =
    IsVerdictBetween (settled goes_on judged) events first end (runs.Fail moment name cause of_too_many)
IsVerdictOn goes_on judged events first end (runs.TooMany moment named) =
    IsVerdictBetween (settled goes_on judged) events first end (runs.TooMany moment named)
IsVerdictOn goes_on judged events first end (runs.TooLong moment) = IsVerdictBetween (settled goes_on judged) events first end (runs.TooLong moment)

-- the moments with too many branches in two rows together
abbrev pub with_open : Option OpenMoments → Option OpenMoments → Option OpenMoments
with_open None further = further
with_open (Some one) None = Some one
with_open (Some one) (Some other) = Some (both_open one other)

-- the verdict on so many moments, each of which passes or has too many branches
abbrev pub settled_verdict : {Cause : Type 0} → ℕ → Option ℕ → Option OpenMoments → Verdict Cause
settled_verdict moments images None = runs.Pass moments images
settled_verdict moments images (Some told) = runs.Open moments images told

-- what becomes of moments that were judged: those below a bound pass or have too many branches, or one of them ends the verdict
abbrev pub IsRow : {Cause : Type 0} → Bool → (ℕ → MomentVerdict Cause → Type 0) → List Event → ℕ → ℕ → Row Cause → Type 0
IsRow goes_on judged events first until (Settled end images told) = (first < end) × (end ≤ until)
    × IsVerdictBetween (settled goes_on judged) events first end (runs.Pass (end - first) images) × IsOpenOf judged first end told
IsRow goes_on judged events first until (Ends verdict) = (from end : ℕ) → from ≤ first → until ≤ end →
    PassBetween (settled goes_on judged) from first → IsVerdictOn goes_on judged events from end verdict
