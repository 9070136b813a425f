-- The moments of a run from `first` on that are below `end`, in stretches of one size: number k begins k times the size behind `first`.
use Rattle.std.specs.Prelude.{ℕ, ◌+◌, ◌*◌, ◌<◌, ◌≤◌, List}
use Rattle.verdict.specs.Verdicts.{IsVerdictBetween}
use Rattle.verdict.specs.declared.moment_verdict.verdict.MomentVerdict.{MomentVerdict}
use Rattle.verdict.specs.declared.moment_verdict.verdict.MomentVerdict.TheVariants as moments
use Rattle.verdict.specs.declared.moment_verdict.verdict.Verdict.{Verdict}
use Rattle.store_trace.specs.declared.event.Event.{Event}

-- of these moments those below this one pass
abbrev pub PassUpTo : {Cause : Type 0} → (ℕ → MomentVerdict Cause → Type 0) → ℕ → ℕ → ℕ → Type 0
PassUpTo judged first end bound = (moment : ℕ) → first ≤ moment → moment < bound → moment < end → judged moment moments.Pass

-- those that are in the stretch pass
abbrev pub StretchPasses : {Cause : Type 0} → (ℕ → MomentVerdict Cause → Type 0) → ℕ → ℕ → ℕ → ℕ → Type 0
StretchPasses judged first end size stretch = PassUpTo judged (first + stretch * size) end (first + stretch * size + size)

-- where those before the stretch pass, this is the verdict on all of them
abbrev pub StretchFails : {Cause : Type 0} → (ℕ → MomentVerdict Cause → Type 0) → List Event → ℕ → ℕ → ℕ → ℕ → Verdict Cause → Type 0
StretchFails judged events first end size stretch verdict =
    PassUpTo judged first end (first + stretch * size) → IsVerdictBetween judged events first end verdict
