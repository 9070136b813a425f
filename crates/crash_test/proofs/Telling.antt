-- A verdict, and what was told on the way to it.
use Rattle.std.proofs.Common.{◌≡◌, ℕ, Bool, List, Option, subst}
use Rattle.store_trace.specs.declared.event.Event.{Event}
use Rattle.verdict.specs.Progress.{HasHeard, IsTold}
use Rattle.verdict.specs.GoingOn.{IsVerdictOn}
use Rattle.verdict.specs.declared.moment_verdict.verdict.MomentVerdict.{MomentVerdict}
use Rattle.verdict.specs.declared.moment_verdict.verdict.Verdict.{Verdict}

pub told_nothing : {Hearer Cause : Type 0} (hears : Hearer → ℕ → ℕ → Option ℕ → Hearer → Type 0) (judged : ℕ → MomentVerdict Cause → Type 0)
    (events : List Event) (first end : ℕ) (hearer : Hearer) → IsTold hears judged events first end hearer hearer
told_nothing hears judged events first end hearer = record { passed = 0; heard = HasHeard.nothing }

-- what was told of some moments of a run, by other names
pub told_as : {Hearer View Cause : Type 0} (hears : Hearer → ℕ → ℕ → Option ℕ → Hearer → Type 0) (judged : View → ℕ → MomentVerdict Cause → Type 0)
    (events : View → List Event) (run same : View) (first from end until : ℕ) (hearer hearer' : Hearer) → run ≡ same → first ≡ from → end ≡ until →
    IsTold hears (judged run) (events run) first end hearer hearer' → IsTold hears (judged same) (events same) from until hearer hearer'
told_as {View = View} hears judged events run same first from end until hearer hearer' e begins ends told =
    subst (λ (v : View). IsTold hears (judged v) (events v) from until hearer hearer') e
    (subst (λ (n : ℕ). IsTold hears (judged run) (events run) from n hearer hearer') ends
    (subst (λ (n : ℕ). IsTold hears (judged run) (events run) n end hearer hearer') begins told))

-- the verdict on some moments of a run, by other names
pub verdict_as : {View Cause : Type 0} (goes_on : Bool) (judged : View → ℕ → MomentVerdict Cause → Type 0) (events : View → List Event)
    (run same : View) (first from end until : ℕ) (verdict : Verdict Cause) → run ≡ same → first ≡ from → end ≡ until →
    IsVerdictOn goes_on (judged run) (events run) first end verdict → IsVerdictOn goes_on (judged same) (events same) from until verdict
verdict_as {View = View} goes_on judged events run same first from end until verdict e begins ends is =
    subst (λ (v : View). IsVerdictOn goes_on (judged v) (events v) from until verdict) e
    (subst (λ (n : ℕ). IsVerdictOn goes_on (judged run) (events run) from n verdict) ends
    (subst (λ (n : ℕ). IsVerdictOn goes_on (judged run) (events run) n end verdict) begins is))
