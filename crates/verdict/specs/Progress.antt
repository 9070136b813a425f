-- What is told on the way to a verdict.
use Rattle.std.specs.Prelude.{ℕ, ◌+◌, ◌-◌, ◌<◌, ◌≤◌, List, Option}
use Rattle.verdict.specs.Verdicts.{IsVerdictBetween}
use Rattle.verdict.specs.declared.moment_verdict.verdict.MomentVerdict.{MomentVerdict}
use Rattle.verdict.specs.declared.moment_verdict.verdict.Verdict.TheVariants.{Pass}
use Rattle.store_trace.specs.declared.event.Event.{Event}

-- Of the moments from `first` on that are below `end` somebody was told, time after time, that so many pass, of how many, and how many
-- images those have: each time of more than before, and so it is. `hears` says what becomes of the hearer each time.
pub data HasHeard {Hearer Cause : Type 0} (hears : Hearer → ℕ → ℕ → Option ℕ → Hearer → Type 0) (judged : ℕ → MomentVerdict Cause → Type 0)
    (events : List Event) (first end : ℕ) (hearer : Hearer) : ℕ → Hearer → Type 0 where
  nothing : HasHeard hears judged events first end hearer 0 hearer
  more : (passed further : ℕ) (images : Option ℕ) (before after : Hearer) → HasHeard hears judged events first end hearer passed before →
      passed < further → first + further ≤ end → IsVerdictBetween judged events first (first + further) (Pass further images) →
      hears before further (end - first) images after → HasHeard hears judged events first end hearer further after

-- what becomes of the hearer on the way to the verdict on these moments
pub record IsTold {Hearer Cause : Type 0} (hears : Hearer → ℕ → ℕ → Option ℕ → Hearer → Type 0) (judged : ℕ → MomentVerdict Cause → Type 0)
    (events : List Event) (first end : ℕ) (hearer hearer' : Hearer) : Type 0 where
  pub passed : ℕ
  pub heard : HasHeard hears judged events first end hearer passed hearer'
