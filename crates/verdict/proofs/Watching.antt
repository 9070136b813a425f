-- The moments of a part, judged in turn, and what is told of them on the way.
use Rattle.std.proofs.Common.{◌≡◌, ℕ, zero, suc, ◌+◌, ◌-◌, ◌*◌, ◌^◌, ◌<◌, ◌≤◌, Bool, true, false, nat_le, List, Option, Some, None, inl, inr, refl, subst, sym, arith}
use Rattle.std.specs.Prelude.{IfSome}
use Rattle.std.proofs.lemmas.Bool.{cases_lt}
use Rattle.std.proofs.lemmas.Bool.Decides.{nat_tests}
use Rattle.crash_image.proofs.Joining.{sums_join}
use Rattle.crash_image.specs.Totals.{IsImageSum, images_between, sum_of}
use Rattle.store_trace.specs.Cut.{cut_count}
use Rattle.store_trace.specs.History.{at_moment}
use Rattle.store_trace.specs.declared.event.Event.{Event}
use Rattle.verdict.specs.Progress.{HasHeard}
use Rattle.verdict.specs.Verdicts.{IsVerdictBetween}
use Rattle.verdict.specs.declared.moment_verdict.verdict.MomentVerdict.{MomentVerdict}
use Rattle.verdict.specs.declared.moment_verdict.verdict.Verdict.TheVariants as runs
use Rattle.verdict.proofs.GoingOn.{none_told, told_join}
use Rattle.verdict.proofs.Parts.{verdicts_join}
use Rattle.verdict.specs.GoingOn.{IsOpenOf, IsRow, settled, with_open}
use Rattle.verdict.specs.declared.moment_verdict.verdict.OpenMoments.{OpenMoments}
use Rattle.verdict.specs.declared.progress.Row.TheVariants as rows

-- the moments below `next` pass or are open, and have so many images; and the hearer was told of such moments
pub record IsAt {Hearer Cause : Type 0} (hears : Hearer → ℕ → ℕ → Option ℕ → Hearer → Type 0) (goes_on : Bool) (judged : ℕ → MomentVerdict Cause → Type 0)
    (events : List Event) (first end next : ℕ) (images : Option ℕ) (told : Option OpenMoments) (hearer hearer' : Hearer) : Type 0 where
  pub from : first ≤ next
  pub within : next ≤ end
  pub passes : IsVerdictBetween (settled goes_on judged) events first next (runs.Pass (next - first) images)
  pub left_open : IsOpenOf judged first next told
  pub heard : HasHeard hears (settled goes_on judged) events first end hearer (next - first) hearer'

no_images : (events : List Event) (first : ℕ) → IsImageSum events first first (Some 0)
no_images events zero = (refl, λ m f l. absurd (omega (arith, l)))
no_images events (suc first) =
    let none : nat_le (suc first) first ≡ false = grind (arith, nat_tests) in
    (rw none refl, λ m f l. absurd (omega (arith, f, l)))

pub at_first : {Hearer Cause : Type 0} (hears : Hearer → ℕ → ℕ → Option ℕ → Hearer → Type 0) (goes_on : Bool) (judged : ℕ → MomentVerdict Cause → Type 0)
    (events : List Event) (first end : ℕ) (hearer : Hearer) → first ≤ end →
    IsAt hears goes_on judged events first end first (Some 0) None hearer hearer
at_first hears goes_on judged events first end hearer order =
    let none : first - first ≡ 0 = omega arith in
    record {
      from = omega arith;
      within = order;
      passes = (omega arith, no_images events first, λ m f l. absurd (omega (arith, f, l)));
      left_open = none_told judged first first (omega arith) (λ m f l. absurd (omega (arith, f, l)));
      heard = rw none HasHeard.nothing;
    }

-- further moments pass or are open, and the hearer is told
pub at_next : {Hearer Cause : Type 0} (hears : Hearer → ℕ → ℕ → Option ℕ → Hearer → Type 0) (goes_on : Bool) (judged : ℕ → MomentVerdict Cause → Type 0)
    (events : List Event) (first end next until further : ℕ) (images more : Option ℕ) (told others : Option OpenMoments) (hearer before after : Hearer) →
    IsAt hears goes_on judged events first end next images told hearer before → until ≤ end →
    IsRow goes_on judged events next until (rows.Settled further more others) → hears before (further - first) (end - first) (sum_of images more) after →
    IsAt hears goes_on judged events first end further (sum_of images more) (with_open told others) hearer after
at_next hears goes_on judged events first end next until further images more told others hearer before after at there row heard =
    let later : next < further = row.0 in
    let within : further ≤ end = omega (arith, row.1, there) in
    let from : first ≤ further = omega (arith, at.from, later) in
    let both : IsVerdictBetween (settled goes_on judged) events first further (runs.Pass ((next - first) + (further - next)) (sum_of images more)) =
    verdicts_join sums_join (settled goes_on judged) events first next further (runs.Pass (next - first) images) (runs.Pass (further - next) more) at.from
    (omega (arith, later)) at.passes row.2 in
    let number : (next - first) + (further - next) ≡ further - first = omega (arith, at.from, later) in
    let passes : IsVerdictBetween (settled goes_on judged) events first further (runs.Pass (further - first) (sum_of images more)) = rw number at both in
    let same : first + (further - first) ≡ further = omega (arith, from) in
    let settled' : IsVerdictBetween (settled goes_on judged) events first (first + (further - first)) (runs.Pass (further - first) (sum_of images more)) =
    subst (λ (n : ℕ). IsVerdictBetween (settled goes_on judged) events first n (runs.Pass (further - first) (sum_of images more))) (sym same) passes in
    record {
      from = from;
      within = within;
      passes = passes;
      left_open = told_join judged first next further told others at.left_open row.3;
      heard = HasHeard.more (next - first) (further - first) (sum_of images more) before after at.heard (omega (arith, at.from, later))
          (omega (arith, same, within)) settled' heard;
    }

at_most : (events : List Event) (first end : ℕ) → ((m : ℕ) → first ≤ m → m < end → cut_count (at_moment events m) ≤ 65536) →
    images_between events first end ≤ end * 65536
at_most events first zero few = omega arith
at_most events first (suc m) few = elim (cases_lt m first) [
  | inl before ↦
      let none : nat_le first m ≡ false = grind (arith, nat_tests, before) in
      rw none (omega arith)
  | inr after ↦
      let here : nat_le first m ≡ true = grind (arith, nat_tests, after) in
      rw here (omega (arith, at_most events first m (λ k f l. few k f (omega (arith, l))), few m after (omega arith)))
]

-- the images of a run have a sum that is far from 2^64
pub few_images : (events : List Event) (first end : ℕ) (images : Option ℕ) → end ≤ 65537 → IsImageSum events first end images →
    IfSome images (λ (n : ℕ). n < 2 ^ 63)
few_images events first end None small sum = tt
few_images events first end (Some n) small sum = omega (arith, sum.0, at_most events first end sum.1, small)
