-- The verdict on two rows of moments, of which the second begins where the first ends.
use Rattle.std.proofs.Common.{ℕ, ◌≤◌, List, Option, inl, inr, arith}
use Rattle.std.proofs.lemmas.Bool.{cases_lt}
use Rattle.crash_image.specs.Totals.{IsImageSum, sum_of}
use Rattle.store_trace.specs.declared.event.Event.{Event}
use Rattle.verdict.specs.Verdicts.{IsLeastMoment, IsVerdictBetween, PassBetween, joined}
use Rattle.verdict.specs.declared.moment_verdict.verdict.MomentVerdict.{MomentVerdict}
use Rattle.verdict.specs.declared.moment_verdict.verdict.Verdict.{Verdict}
use Rattle.verdict.specs.declared.moment_verdict.verdict.Verdict.TheVariants as runs

passes_join : {Cause : Type 0} (judged : ℕ → MomentVerdict Cause → Type 0) (first middle end : ℕ) → PassBetween judged first middle →
    PassBetween judged middle end → PassBetween judged first end
passes_join judged first middle end one other m f h = elim (cases_lt m middle) [
  | inl before ↦ one m f before
  | inr after ↦ other m after h
]

pub later_fails : {Cause : Type 0} (judged : ℕ → MomentVerdict Cause → Type 0) (first middle end moment : ℕ) (verdict : MomentVerdict Cause) → first ≤ middle →
    PassBetween judged first middle → IsLeastMoment judged middle end moment verdict →
    IsLeastMoment judged first end moment verdict
later_fails judged first middle end moment verdict f one least = record {
  from = omega (arith, f, least.from);
  there = least.there;
  passed = passes_join judged first middle moment one least.passed;
  here = least.here;
}

pub earlier_fails : {Cause : Type 0} (judged : ℕ → MomentVerdict Cause → Type 0) (first middle end moment : ℕ) (verdict : MomentVerdict Cause) → middle ≤ end →
    IsLeastMoment judged first middle moment verdict → IsLeastMoment judged first end moment verdict
earlier_fails judged first middle end moment verdict m least = record {
  from = least.from;
  there = omega (arith, m, least.there);
  passed = least.passed;
  here = least.here;
}

-- the images of the two rows are those of both
abbrev pub SumsJoin : Type 0
SumsJoin = (events : List Event) (first middle end : ℕ) (one other : Option ℕ) → first ≤ middle → middle ≤ end →
    IsImageSum events first middle one → IsImageSum events middle end other → IsImageSum events first end (sum_of one other)

pub verdicts_join : SumsJoin → {Cause : Type 0} (judged : ℕ → MomentVerdict Cause → Type 0) (events : List Event) (first middle end : ℕ) (one other : Verdict Cause) →
    first ≤ middle → middle ≤ end → IsVerdictBetween judged events first middle one → IsVerdictBetween judged events middle end other →
    IsVerdictBetween judged events first end (joined one other)
verdicts_join sums judged events first middle end (runs.Pass moments images) (runs.Pass more others) f m a b = (
  omega (arith, a.0, b.0),
  sums events first middle end images others f m a.1 b.1,
  passes_join judged first middle end a.2 b.2,
)
verdicts_join sums judged events first middle end (runs.Pass moments images) (runs.Fail moment name cause of_too_many) f m a b =
    later_fails judged first middle end moment _ f a.2 b
verdicts_join sums judged events first middle end (runs.Pass moments images) (runs.TooMany moment named) f m a b =
    later_fails judged first middle end moment _ f a.2 b
verdicts_join sums judged events first middle end (runs.Pass moments images) (runs.TooLong moment) f m a b =
    later_fails judged first middle end moment _ f a.2 b
verdicts_join sums judged events first middle end (runs.Pass moments images) (runs.Open more others told) f m a b = absurd b
verdicts_join sums judged events first middle end (runs.Open moments images told) other f m a b = absurd a
verdicts_join sums judged events first middle end (runs.Fail moment name cause of_too_many) other f m a b =
    earlier_fails judged first middle end moment _ m a
verdicts_join sums judged events first middle end (runs.TooMany moment named) other f m a b =
    earlier_fails judged first middle end moment _ m a
verdicts_join sums judged events first middle end (runs.TooLong moment) other f m a b =
    earlier_fails judged first middle end moment _ m a
