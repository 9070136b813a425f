-- Rows of moments that so many cuts in recovery settle, or don't.
use Rattle.std.proofs.Common.{◌≡◌, ℕ, zero, suc, ◌+◌, ◌<◌, ◌≤◌, Bool, List, [], ◌∷◌, Option, Some, None, length, inl, inr, sym, subst, arith}
use Rattle.routine_judge.specs.Chains.{AreSettled, BeginsAt, IsBadChain, IsCutsVerdict, IsFirstChain, IsFirstLong, IsFirstUnsettled, most_of}
use Rattle.routine_judge.specs.CutRows.{IsEndBy, IsLongEnd, IsRowEnd, end_in, less_one, times_of}
use Rattle.routine_judge.specs.CutVerdicts.{IsJudgedWith, IsVerdictBy}
use Rattle.routine_judge.specs.CutsInRecovery.{IsAllowed}
use Rattle.routine_judge.specs.RightAnswers.{IsSource, RunsOn, Source}
use Rattle.routine_judge.specs.Views.{JudgeView}
use Rattle.routine_judge.specs.declared.cuts.judging.CutCause.{CutCause}
use Rattle.routine_judge.specs.declared.cuts.outcome.ChainLink.{ChainLink}
use Rattle.routine_judge.specs.declared.cuts.outcome.CutsVerdict.TheVariants as verdicts
use Rattle.routine_judge.specs.declared.cuts.outcome.RecoveryCuts.{RecoveryCuts}
use Rattle.routine_judge.specs.declared.cuts.outcome.RecoveryCuts.TheVariants.{Any, AtMost}
use Rattle.routine_judge.specs.declared.cuts.row.RowEnd.{RowEnd}
use Rattle.routine_judge.specs.declared.cuts.row.Why.{Why}
use Rattle.routine_judge.specs.declared.cuts.row.Why.TheVariants.{Bad, TooLong, TooMany}
use Rattle.verdict.specs.GoingOn.{HasTooMany, IsVerdictOn}
use Rattle.verdict.specs.declared.moment_verdict.contents.LineContents.{LineContents}
use Rattle.verdict.specs.declared.moment_verdict.verdict.MomentVerdict.TheVariants as moments
use Rattle.verdict.specs.declared.moment_verdict.verdict.Verdict.{Verdict}
use Rattle.verdict.specs.declared.moment_verdict.verdict.Verdict.TheVariants as runs

-- what up to more cuts leave right, fewer do
pass_less : (view : JudgeView) (more less : Option ℕ) (m : ℕ) → ((n : ℕ) → IsAllowed less n → IsAllowed more n) → IsJudgedWith more view m moments.Pass
    → IsJudgedWith less view m moments.Pass
pass_less view more less m fewer j = record {
  source = j.source;
  is_source = j.is_source;
  judged = elim j.judged [
    | inl long ↦ inl long
    | inr by ↦ inr (by.0, λ cuts image shown allowed left. by.1 cuts image shown (fewer cuts allowed) left)
  ];
}

many_by : (view : JudgeView) (source : Source) (more less : Option ℕ) (m : ℕ) (named : Option (List LineContents)) → IsVerdictBy view source more m (moments.TooMany named)
    → IsVerdictBy view source less m (moments.TooMany named)
many_by view source more less m None by = tt
many_by view source more less m (Some lines) by = absurd by

many_less : (view : JudgeView) (more less : Option ℕ) (m : ℕ) → HasTooMany (IsJudgedWith more view) m → HasTooMany (IsJudgedWith less view) m
many_less view more less m (named, j) = (
  named,
  record {
    source = j.source;
    is_source = j.is_source;
    judged = elim j.judged [
      | inl long ↦ inl long
      | inr by ↦ inr (by.0, many_by view j.source more less m named by.1)
    ];
  },
)

pub settled_less : (goes_on : Bool) (view : JudgeView) (more less : Option ℕ) (first until : ℕ) → ((n : ℕ) → IsAllowed less n → IsAllowed more n)
    → AreSettled goes_on view more first until → AreSettled goes_on view less first until
settled_less goes_on view more less first until fewer all m from there = elim (all m from there) [
  | inl pass ↦ inl (pass_less view more less m fewer pass)
  | inr over ↦ inr (over.0, many_less view more less m over.1)
]

none_allowed : (most : Option ℕ) (n : ℕ) → IsAllowed (Some 0) n → IsAllowed most n
none_allowed None n none = tt
none_allowed (Some most) n none = omega (arith, none)

-- the least moment that isn't settled by a verdict
long_here : (view : JudgeView) (most : Option ℕ) (m : ℕ) → IsJudgedWith most view m moments.TooLong → (source : Source) × IsSource view m source × RunsOn view source
long_here view most m j = elim j.judged [
  | inl long ↦ (j.source, j.is_source, long.1)
  | inr by ↦ absurd by.1
]

pub end_by : (goes_on : Bool) (view : JudgeView) (most : Option ℕ) (first until : ℕ) (verdict : Verdict CutCause)
    → IsVerdictOn goes_on (IsJudgedWith most view) view.events first until verdict → IsEndBy goes_on view most first until (end_in verdict)
end_by goes_on view most first until (runs.Pass moments images) is = λ m from there. inl (is.2 m from there)
end_by goes_on view most first until (runs.Open moments images told) is = is.0.2
end_by goes_on view most first until (runs.Fail m name cause of_too_many) is = record {
  from = is.from;
  there = is.there;
  before = is.passed;
  long = λ e. absurd (let never : ◌≡◌ {A = Why} Bad TooLong = e in cc);
}
end_by goes_on view most first until (runs.TooMany m named) is = record {
  from = is.from;
  there = is.there;
  before = is.passed;
  long = λ e. absurd (let never : ◌≡◌ {A = Why} TooMany TooLong = e in cc);
}
end_by goes_on view most first until (runs.TooLong m) is = record {
  from = is.from;
  there = is.there;
  before = is.passed;
  long = λ e. long_here view most m is.here;
}

pub long_first : (goes_on : Bool) (view : JudgeView) (most : Option ℕ) (first until m : ℕ)
    → IsVerdictOn goes_on (IsJudgedWith most view) view.events first until (runs.TooLong m) → IsFirstLong goes_on view first until m
long_first goes_on view most first until m is =
    let (source, is_source, runs_on) = long_here view most m is.here in record {
      from = is.from;
      there = is.there;
      source = source;
      is_source = is_source;
      runs_on = runs_on;
      before = settled_less goes_on view most (Some 0) first m (none_allowed most) is.passed;
    }

-- what is told where so many cuts are the fewest that don't settle the row
none_settled : (goes_on : Bool) (view : JudgeView) (asked : RecoveryCuts) (first until n m : ℕ) → IsFirstUnsettled goes_on view asked first until n m
    → AreSettled goes_on view (Some 0) first m
none_settled goes_on view asked first until zero m u = u.before
none_settled goes_on view asked first until (suc n) m u = λ k from below.
    let out = u.there in u.fewer 0 (omega arith) k from (omega (arith, below, out))

pub tell_long : (goes_on : Bool) (view : JudgeView) (asked : RecoveryCuts) (first until n : ℕ) (end : RowEnd) → IsFirstUnsettled goes_on view asked first until n end.moment
    → IsLongEnd view end → end.why ≡ TooLong → IsFirstLong goes_on view first until end.moment
tell_long goes_on view asked first until n end u long is =
    let (source, is_source, runs_on) = long is in record {
      from = u.from;
      there = u.there;
      source = source;
      is_source = is_source;
      runs_on = runs_on;
      before = none_settled goes_on view asked first until n end.moment u;
    }

pub tell_many : (goes_on : Bool) (view : JudgeView) (asked : RecoveryCuts) (first until n m : ℕ) → IsFirstUnsettled goes_on view asked first until n m
    → IsCutsVerdict goes_on view asked first until (verdicts.TooMany m (less_one n))
tell_many goes_on view asked first until zero m u = u
tell_many goes_on view asked first until (suc n) m u =
    let same : suc n ≡ n + 1 = omega arith in subst (λ (k : ℕ). IsFirstUnsettled goes_on view asked first until k m) same u

pub tell_bad : (goes_on : Bool) (view : JudgeView) (asked : RecoveryCuts) (first until n m : ℕ) (chain : List ChainLink) (cause : CutCause)
    → IsFirstUnsettled goes_on view asked first until n m → BeginsAt m n chain → IsBadChain view m chain cause → IsFirstChain goes_on view asked first until chain cause
tell_bad goes_on view asked first until n m [] cause u begins bad = absurd begins
tell_bad goes_on view asked first until n m (link ∷ links) cause u begins bad = (
  subst (λ (k : ℕ). IsFirstUnsettled goes_on view asked first until (length links) k) (sym begins.0)
      (subst (λ (k : ℕ). IsFirstUnsettled goes_on view asked first until k m) (sym begins.1) u),
  subst (λ (k : ℕ). IsBadChain view k (link ∷ links) cause) (sym begins.0) bad,
)

-- while the numbers of cuts are tried
pub fewer_next : (goes_on : Bool) (view : JudgeView) (first until n : ℕ) → ((k : ℕ) → k < n → AreSettled goes_on view (Some k) first until)
    → AreSettled goes_on view (Some n) first until → (k : ℕ) → k < n + 1 → AreSettled goes_on view (Some k) first until
fewer_next goes_on view first until n fewer here k below = settled_less goes_on view (Some n) (Some k) first until (λ i few. omega (arith, few, below)) here

pub first_at : (goes_on : Bool) (view : JudgeView) (asked : RecoveryCuts) (first until n : ℕ) (end : RowEnd) → IsAllowed (most_of asked) n
    → ((k : ℕ) → k < n → AreSettled goes_on view (Some k) first until) → IsRowEnd goes_on view (Some n) first until end
    → IsFirstUnsettled goes_on view asked first until n end.moment
first_at goes_on view asked first until n end allowed fewer e = record { allowed = allowed; from = e.from; there = e.there; fewer = fewer; before = e.before }

any_many : (goes_on : Bool) (view : JudgeView) (first until n : ℕ) (end : RowEnd) → ((k : ℕ) → k < n → AreSettled goes_on view (Some k) first until)
    → IsRowEnd goes_on view None first until end → IsFirstUnsettled goes_on view Any first until n end.moment
any_many goes_on view first until n end fewer e = record {
  allowed = tt;
  from = e.from;
  there = e.there;
  fewer = fewer;
  before = settled_less goes_on view None (Some n) first end.moment (λ i few. tt) e.before;
}

pub times_allowed : (asked : RecoveryCuts) (n : ℕ) → n < times_of asked → IsAllowed (most_of asked) n
times_allowed (AtMost most) n below = omega (arith, below)
times_allowed Any n below = tt

-- where all numbers below as many as are asked for settle it, and that many don't
pub last_at : (goes_on : Bool) (view : JudgeView) (asked : RecoveryCuts) (first until n most : ℕ) (end : RowEnd) → asked ≡ AtMost most → times_of asked ≤ n
    → ((k : ℕ) → k < n → AreSettled goes_on view (Some k) first until) → IsRowEnd goes_on view (most_of asked) first until end
    → IsFirstUnsettled goes_on view asked first until most end.moment
last_at goes_on view (AtMost m) first until n most end is past fewer e =
    let same : m ≡ most = cc in
    subst (λ (k : ℕ). IsFirstUnsettled goes_on view (AtMost m) first until k end.moment) same
    (first_at goes_on view (AtMost m) first until m end (omega arith) (λ k below. fewer k (omega (arith, below, past))) e)
last_at goes_on view Any first until n most end is past fewer e = absurd (let never : ◌≡◌ {A = RecoveryCuts} Any (AtMost most) = is in cc)

pub any_at : (goes_on : Bool) (view : JudgeView) (asked : RecoveryCuts) (first until n : ℕ) (end : RowEnd) → asked ≡ Any → times_of asked ≤ n
    → ((k : ℕ) → k < n → AreSettled goes_on view (Some k) first until) → IsRowEnd goes_on view (most_of asked) first until end
    → IsCutsVerdict goes_on view asked first until (verdicts.TooMany end.moment (Some 64))
any_at goes_on view (AtMost m) first until n end is past fewer e = absurd (let never : ◌≡◌ {A = RecoveryCuts} (AtMost m) Any = is in cc)
any_at goes_on view Any first until n end is past fewer e = any_many goes_on view first until 65 end (λ k below. fewer k (omega (arith, below, past))) e

-- where 64 cuts settle it
pub any_after : (goes_on : Bool) (view : JudgeView) (asked : RecoveryCuts) (first until : ℕ) (end : RowEnd) → asked ≡ Any → AreSettled goes_on view (Some 64) first until
    → IsRowEnd goes_on view (most_of asked) first until end → IsCutsVerdict goes_on view asked first until (verdicts.TooMany end.moment (Some 64))
any_after goes_on view (AtMost m) first until end is all e = absurd (let never : ◌≡◌ {A = RecoveryCuts} (AtMost m) Any = is in cc)
any_after goes_on view Any first until end is all e = any_many goes_on view first until 65 end (fewer_next goes_on view first until 64 (λ k below. settled_less goes_on view (Some 64) (Some k) first until (λ n few. omega (arith, few, below)) all) all) e
