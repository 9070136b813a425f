-- Stretches of moments, from one to the next, and from all of them to their whole.
use Rattle.std.proofs.Common.{◌≡◌, ℕ, zero, suc, ◌+◌, ◌*◌, ◌<◌, ◌≤◌, inl, inr, List, Option, Some, None, subst, arith}
use Rattle.std.specs.Prelude.{IfNone, IfSome}
use Rattle.std.proofs.lemmas.Bool.{cases_lt}
use Rattle.std.proofs.Math.Nat.{mul-le-mul_right, suc-mul}
use Rattle.crash_image.specs.Totals.{IsImageSum}
use Rattle.verdict.specs.Verdicts.{IsVerdictBetween, PassBetween}
use Rattle.verdict.specs.declared.moment_verdict.verdict.MomentVerdict.{MomentVerdict}
use Rattle.verdict.specs.declared.moment_verdict.verdict.MomentVerdict.TheVariants as moments
use Rattle.verdict.specs.declared.moment_verdict.verdict.Verdict.{Verdict}
use Rattle.verdict.specs.declared.moment_verdict.verdict.Verdict.TheVariants as runs
use Rattle.workers.specs.Sweeps.{IsSwept}
use Rattle.store_trace.specs.declared.event.Event.{Event}
use Rattle.verdict.specs.Stretches.{PassUpTo, StretchFails, StretchPasses}

-- a stretch ends where the next one begins, and all of them within their number times the size
pub stretch_within : (stretch count size : ℕ) → stretch < count → stretch * size + size ≤ count * size
stretch_within stretch count size l =
    let more : suc stretch * size ≤ count * size = mul-le-mul_right size (omega arith) in
    let same : suc stretch * size ≡ stretch * size + size = suc-mul stretch size in
    omega (arith, more, same)

module _ {Cause : Type 0} (judged : ℕ → MomentVerdict Cause → Type 0) where
  -- the moments of the first stretches
  stretches_pass : (first end size count : ℕ) → ((k : ℕ) → k < count → StretchPasses judged first end size k) →
      PassUpTo judged first end (first + count * size)
  stretches_pass first end size zero each m f l there = absurd (omega arith)
  stretches_pass first end size (suc count) each m f l there =
      let same : suc count * size ≡ count * size + size = suc-mul count size in
      elim (cases_lt m (first + count * size)) [
        | inl earlier ↦ stretches_pass first end size count (λ k b. each k (omega arith)) m f earlier there
        | inr late ↦ each count (omega arith) m late (omega (arith, same, l)) there
      ]

  -- what a sweep over the stretches comes to, where none fails, and where this is the least that does
  pub swept_pass : (events : List Event) (first end size count number : ℕ) (images : Option ℕ) →
      IsSwept (λ k. StretchPasses judged first end size k) (λ k v. StretchFails judged events first end size k v) count None → end ≤ first + count * size →
      first + number ≡ end → IsImageSum events first end images → IsVerdictBetween judged events first end (runs.Pass number images)
  swept_pass events first end size count number images each whole all total =
      (all, total, λ m f l. stretches_pass first end size count each m f (omega (arith, whole, l)) l)

  pub swept_fail : (events : List Event) (first end size count : ℕ) (bad : ℕ × Verdict Cause) →
      IsSwept (λ k. StretchPasses judged first end size k) (λ k v. StretchFails judged events first end size k v) count (Some bad) →
      IsVerdictBetween judged events first end bad.1
  swept_fail events first end size count bad least = least.1 (stretches_pass first end size bad.0 least.2)

  -- one moment more that passes
  pub found_pass : (first moment : ℕ) (found : Option (Verdict Cause)) → found ≡ None → IfNone found (judged moment moments.Pass) →
      ((m : ℕ) → first ≤ m → m < moment → judged m moments.Pass) → (m : ℕ) → first ≤ m → m < moment + 1 → judged m moments.Pass
  found_pass first moment found none pass between m f l =
      let passes = subst (λ (o : Option (Verdict Cause)). IfNone o (judged moment moments.Pass)) none pass in
      elim (cases_lt m moment) [
        | inl earlier ↦ between m f earlier
        | inr late ↦
            let same : moment ≡ m = omega arith in
            subst (λ (k : ℕ). judged k moments.Pass) same passes
      ]

  -- the moments before the first that doesn't pass, of those before a stretch and of those in it
  pub passed_before : (from until first moment : ℕ) → moment < until → PassUpTo judged from until first →
      ((m : ℕ) → first ≤ m → m < moment → judged m moments.Pass) → (m : ℕ) → from ≤ m → m < moment → judged m moments.Pass
  passed_before from until first moment there before between m f l = elim (cases_lt m first) [
    | inl earlier ↦ before m f earlier (omega (arith, l, there))
    | inr late ↦ between m late l
  ]

  -- the first moment found in a stretch that doesn't pass
  abbrev pub Fails : List Event → ℕ → Verdict Cause → Type 0
  Fails events moment verdict = (from until : ℕ) → from ≤ moment → moment < until → PassBetween judged from moment →
      IsVerdictBetween judged events from until verdict

  pub found_fail : (events : List Event) (from until first moment : ℕ) (found : Option (Verdict Cause)) (here verdict : Verdict Cause) → found ≡ Some here →
      here ≡ verdict → IfSome found (λ v. Fails events moment v) → ((m : ℕ) → first ≤ m → m < moment → judged m moments.Pass) →
      from ≤ moment → moment < until → PassUpTo judged from until first → IsVerdictBetween judged events from until verdict
  found_fail events from until first moment found here verdict some same bad between f l before =
      let fails = subst (λ (o : Option (Verdict Cause)). IfSome o (λ v. Fails events moment v)) some bad in
      subst (λ (v : Verdict Cause). IsVerdictBetween judged events from until v) same
      (fails from until f l (passed_before from until first moment l before between))
