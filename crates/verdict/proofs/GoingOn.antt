-- Moments with too many branches, behind which judging goes on: what two rows have together, and what becomes of a row.
use Rattle.std.proofs.Common.{◌≡◌, ◌≢◌, ℕ, zero, suc, ◌+◌, ◌^◌, ◌<◌, ◌≤◌, ◌++◌, Bool, true, false, List, [], ◌∷◌, Option, Some, None, length, inl, inr, refl, sym, ap, subst, ◌∙◌, append_assoc, arith}
use Rattle.std.specs.Prelude.{IfSome}
use Rattle.std.proofs.lemmas.Bool.{cases_lt}
use Rattle.std.proofs.lemmas.List.{append-nil, length-append}
use Rattle.crash_image.specs.Totals.{IsImageSum}
use Rattle.store_trace.specs.declared.event.Event.{Event}
use Rattle.verdict.specs.GoingOn.{AreOpen, HasTooMany, IsOpenOf, IsRow, IsVerdictOn, open_of, settled, settled_verdict, with_open}
use Rattle.text.specs.declared.image_name.name.ImageName.{ImageName}
use Rattle.verdict.specs.Verdicts.{IsLeastMoment, IsVerdictBetween, PassBetween, joined}
use Rattle.verdict.specs.declared.moment_verdict.contents.LineContents.{LineContents}
use Rattle.verdict.specs.declared.moment_verdict.verdict.MomentVerdict.{MomentVerdict}
use Rattle.verdict.specs.declared.moment_verdict.verdict.MomentVerdict.TheVariants as moments
use Rattle.verdict.specs.declared.moment_verdict.verdict.OpenMoments.{OpenMoments}
use Rattle.verdict.specs.declared.moment_verdict.verdict.Verdict.{Verdict}
use Rattle.verdict.specs.declared.moment_verdict.verdict.Verdict.TheVariants as runs
use Rattle.verdict.specs.declared.progress.Row.TheVariants as rows
use Rattle.verdict.proofs.Deciding.{IsJudgedOnce, verdict_once}
use Rattle.verdict.proofs.Parts.{SumsJoin, earlier_fails, later_fails, verdicts_join}

module _ {Cause : Type 0} (judged : ℕ → MomentVerdict Cause → Type 0) where
  -- where each moment passes, none has too many branches
  pub none_of_passes : (first end : ℕ) → first ≤ end → PassBetween judged first end → AreOpen judged first end []
  none_of_passes first zero order pass =
      let same : first ≡ 0 = omega (arith, order) in
      subst (λ (n : ℕ). AreOpen judged first n []) same AreOpen.nothing
  none_of_passes first (suc m) order pass = elim (cases_lt m first) [
    | inl before ↦
        let same : first ≡ suc m = omega (arith, order, before) in
        subst (λ (n : ℕ). AreOpen judged first n []) same AreOpen.nothing
    | inr after ↦
        AreOpen.passes m [] (none_of_passes first m after (λ k f l. pass k f (omega (arith, l)))) (pass m after (omega arith))
  ]

  passes_of : (first end : ℕ) (found : List ℕ) → AreOpen judged first end found → found ≡ [] → PassBetween judged first end
  passes_of first _ _ AreOpen.nothing none m f l = absurd (omega (arith, f, l))
  passes_of first _ _ (AreOpen.passes k found before pass) none m f l = elim (cases_lt m k) [
    | inl earlier ↦ passes_of first k found before none m f earlier
    | inr late ↦
        let same : k ≡ m = omega (arith, late, l) in
        subst (λ (n : ℕ). judged n moments.Pass) same pass
  ]
  passes_of first _ _ (AreOpen.too_many k found before here) none m f l =
      let longer : length (found ++ k ∷ []) ≡ length found + 1 = length-append found (k ∷ []) in
      let short : length (found ++ k ∷ []) ≡ 0 = rw none refl in
      absurd (omega (arith, longer, short))

  -- where none is told, each passes
  pub passes_of_none : (first end : ℕ) → IsOpenOf judged first end None → PassBetween judged first end
  passes_of_none first end ([], there, same) = passes_of first end [] there refl
  passes_of_none first end (m ∷ found, there, same) = absurd cc

  pub none_told : (first end : ℕ) → first ≤ end → PassBetween judged first end → IsOpenOf judged first end None
  none_told first end order pass = ([], none_of_passes first end order pass, refl)

  -- the first moment of a row that doesn't pass has too many
  pub one_told : (first m : ℕ) → first ≤ m → PassBetween judged first m → HasTooMany judged m →
      IsOpenOf judged first (suc m) (Some (record { count = 1; first = m }))
  one_told first m order pass here = (m ∷ [], AreOpen.too_many m [] (none_of_passes first m order pass) here, refl)

  -- there are no more of them than moments
  few_open : (first end : ℕ) (found : List ℕ) → AreOpen judged first end found → length found ≤ end
  few_open first _ _ AreOpen.nothing = omega arith
  few_open first _ _ (AreOpen.passes m found before pass) = omega (arith, few_open first m found before)
  few_open first _ _ (AreOpen.too_many m found before here) =
      let longer : length (found ++ m ∷ []) ≡ length found + 1 = length-append found (m ∷ []) in
      omega (arith, few_open first m found before, longer)

  pub few_told : (first end : ℕ) (told : Option OpenMoments) → end ≤ 65537 → IsOpenOf judged first end told →
      IfSome told (λ (open' : OpenMoments). open'.count < 2 ^ 31)
  few_told first end told small ([], there, same) = rw same tt
  few_told first end told small (m ∷ found, there, same) = rw same (omega (arith, few_open first end (m ∷ found) there, small))

  open_join : (first middle end : ℕ) (one other : List ℕ) → AreOpen judged first middle one → AreOpen judged middle end other →
      AreOpen judged first end (one ++ other)
  open_join first middle _ one _ a AreOpen.nothing = rw (append-nil one) a
  open_join first middle _ one _ a (AreOpen.passes m found before pass) = AreOpen.passes m (one ++ found) (open_join first middle m one found a before) pass
  open_join first middle _ one _ a (AreOpen.too_many m found before here) =
      subst (λ (l : List ℕ). AreOpen judged first (suc m) l) (append_assoc one found (m ∷ []))
      (AreOpen.too_many m (one ++ found) (open_join first middle m one found a before) here)

open_of_both : (one other : List ℕ) → open_of (one ++ other) ≡ with_open (open_of one) (open_of other)
open_of_both [] other = refl
open_of_both (m ∷ found) [] = rw (append-nil found) refl
open_of_both (m ∷ found) (n ∷ more) =
    let longer : length (found ++ n ∷ more) ≡ length found + suc (length more) = length-append found (n ∷ more) in
    let count : suc (length (found ++ n ∷ more)) ≡ suc (length found) + suc (length more) = omega (arith, longer) in
    rw count refl

-- what is told of two rows is told of both
pub told_join : {Cause : Type 0} (judged : ℕ → MomentVerdict Cause → Type 0) (first middle end : ℕ) (one other : Option OpenMoments) →
    IsOpenOf judged first middle one → IsOpenOf judged middle end other → IsOpenOf judged first end (with_open one other)
told_join judged first middle end one other a b = (
  a.0 ++ b.0,
  open_join judged first middle end a.0 b.0 a.1 b.1,
  rw (a.2, b.2) (sym (open_of_both a.0 b.0)),
)

-- judging goes on behind a moment that passes
pub settled_passes : {Cause : Type 0} (goes_on : Bool) (judged : ℕ → MomentVerdict Cause → Type 0) (first end : ℕ) → PassBetween judged first end →
    PassBetween (settled goes_on judged) first end
settled_passes goes_on judged first end pass m f l = inl (pass m f l)

-- where judging goes on, so it does behind the first moment with too many branches
pub settled_to : {Cause : Type 0} (judged : ℕ → MomentVerdict Cause → Type 0) (first m : ℕ) → PassBetween judged first m → HasTooMany judged m →
    PassBetween (settled true judged) first (suc m)
settled_to judged first m pass here k f l = elim (cases_lt k m) [
  | inl earlier ↦ inl (pass k f earlier)
  | inr late ↦
      let same : m ≡ k = omega (arith, late, l) in
      inr (refl, subst (λ (n : ℕ). HasTooMany judged n) same here)
]

settled_least : {Cause : Type 0} (goes_on : Bool) (judged : ℕ → MomentVerdict Cause → Type 0) (first end moment : ℕ) (verdict : MomentVerdict Cause) →
    IsLeastMoment judged first end moment verdict → settled goes_on judged moment verdict →
    IsLeastMoment (settled goes_on judged) first end moment verdict
settled_least goes_on judged first end moment verdict least here = record {
  from = least.from;
  there = least.there;
  passed = settled_passes goes_on judged first moment least.passed;
  here = here;
}

-- a verdict on a row that is none of a pass, and none behind which judging goes on
abbrev pub Ends : {Cause : Type 0} → Bool → Verdict Cause → Type 0
Ends goes_on (runs.Pass moments images) = ⊥
Ends goes_on (runs.Open moments images told) = ⊥
Ends goes_on (runs.Fail moment name cause of_too_many) = Unit {0}
Ends goes_on (runs.TooMany moment named) = goes_on ≡ false
Ends goes_on (runs.TooLong moment) = Unit {0}

wider : {Cause : Type 0} (judged : ℕ → MomentVerdict Cause → Type 0) (from first until end moment : ℕ) (verdict : MomentVerdict Cause) → from ≤ first →
    until ≤ end → PassBetween judged from first → IsLeastMoment judged first until moment verdict → IsLeastMoment judged from end moment verdict
wider judged from first until end moment verdict f l pass least =
    earlier_fails judged from until end moment verdict l (later_fails judged from first until moment verdict f pass least)

pub ends : {Cause : Type 0} (goes_on : Bool) (judged : ℕ → MomentVerdict Cause → Type 0) (events : List Event) (first until : ℕ) (verdict : Verdict Cause) →
    IsVerdictBetween judged events first until verdict → Ends goes_on verdict → IsRow goes_on judged events first until (rows.Ends verdict)
ends goes_on judged events first until (runs.Fail moment name cause of_too_many) is ending from end f l pass =
    wider (settled goes_on judged) from first until end moment _ f l pass (settled_least goes_on judged first until moment _ is is.here)
ends goes_on judged events first until (runs.TooMany moment named) is ending from end f l pass =
    wider (settled goes_on judged) from first until end moment _ f l pass (settled_least goes_on judged first until moment _ is (ending, is.here))
ends goes_on judged events first until (runs.TooLong moment) is ending from end f l pass =
    wider (settled goes_on judged) from first until end moment _ f l pass (settled_least goes_on judged first until moment _ is is.here)
ends goes_on judged events first until (runs.Pass moments images) is ending from end f l pass = absurd ending
ends goes_on judged events first until (runs.Open moments images told) is ending from end f l pass = absurd ending

-- all of a row that passes is settled
pub settles_all : {Cause : Type 0} (goes_on : Bool) (judged : ℕ → MomentVerdict Cause → Type 0) (events : List Event) (first until number : ℕ)
    (images : Option ℕ) → first < until → IsVerdictBetween judged events first until (runs.Pass number images) →
    IsRow goes_on judged events first until (rows.Settled until images None)
settles_all goes_on judged events first until number images order is = (
  order,
  omega arith,
  (omega (arith, order), is.1, settled_passes goes_on judged first until is.2),
  none_told judged first until (omega (arith, order)) is.2,
)

-- and so is a row up to its first moment with too many branches
pub settles_to : {Cause : Type 0} (judged : ℕ → MomentVerdict Cause → Type 0) (events : List Event) (first until moment : ℕ) (named : Option (List LineContents))
    (images : Option ℕ) → IsLeastMoment judged first until moment (moments.TooMany named) → IsImageSum events first (moment + 1) images →
    IsRow true judged events first until (rows.Settled (moment + 1) images (Some (record { count = 1; first = moment })))
settles_to judged events first until moment named images least sum =
    let one : suc moment ≡ moment + 1 = omega arith in (
      omega (arith, least.from),
      omega (arith, least.there),
      (
        omega (arith, least.from),
        sum,
        subst (λ (n : ℕ). PassBetween (settled true judged) first n) one
            (settled_to judged first moment least.passed (named, least.here)),
      ),
      subst (λ (n : ℕ). IsOpenOf judged first n (Some (record { count = 1; first = moment }))) one
          (one_told judged first moment least.from least.passed (named, least.here)),
    )

-- the verdict on settled moments
pub settled_is : {Cause : Type 0} (goes_on : Bool) (judged : ℕ → MomentVerdict Cause → Type 0) (events : List Event) (first end number : ℕ)
    (images : Option ℕ) (told : Option OpenMoments) → IsVerdictBetween (settled goes_on judged) events first end (runs.Pass number images) →
    IsOpenOf judged first end told → IsVerdictOn goes_on judged events first end (settled_verdict number images told)
settled_is goes_on judged events first end number images None is told = (is.0, is.1, passes_of_none judged first end told)
settled_is goes_on judged events first end number images (Some it) is told = (is, told)

-- a verdict on a row that passes, also as one behind which judging goes on
as_settled : {Cause : Type 0} (goes_on : Bool) (judged : ℕ → MomentVerdict Cause → Type 0) (events : List Event) (first end number : ℕ)
    (images : Option ℕ) → first ≤ end → IsVerdictBetween judged events first end (runs.Pass number images) →
    IsVerdictBetween (settled goes_on judged) events first end (runs.Pass number images) × IsOpenOf judged first end None
as_settled goes_on judged events first end number images order is =
    ((is.0, is.1, settled_passes goes_on judged first end is.2), none_told judged first end order is.2)

-- the verdict on two rows, where judging goes on or not
pub verdicts_on_join : SumsJoin → {Cause : Type 0} (goes_on : Bool) (judged : ℕ → MomentVerdict Cause → Type 0) (events : List Event)
    (first middle end : ℕ) (one other : Verdict Cause) → first ≤ middle → middle ≤ end → IsVerdictOn goes_on judged events first middle one →
    IsVerdictOn goes_on judged events middle end other → IsVerdictOn goes_on judged events first end (joined one other)
verdicts_on_join sums goes_on judged events first middle end (runs.Pass moments images) (runs.Pass more others) f m a b =
    verdicts_join sums judged events first middle end (runs.Pass moments images) (runs.Pass more others) f m a b
verdicts_on_join sums goes_on judged events first middle end (runs.Pass moments images) (runs.Open more others told) f m a b =
    let one = as_settled goes_on judged events first middle moments images f a in (
      verdicts_join sums (settled goes_on judged) events first middle end (runs.Pass moments images) (runs.Pass more others) f m one.0 b.0,
      told_join judged first middle end None (Some told) one.1 b.1,
    )
verdicts_on_join sums goes_on judged events first middle end (runs.Pass moments images) (runs.Fail moment name cause of_too_many) f m a b =
    later_fails (settled goes_on judged) first middle end moment _ f (settled_passes goes_on judged first middle a.2) b
verdicts_on_join sums goes_on judged events first middle end (runs.Pass moments images) (runs.TooMany moment named) f m a b =
    later_fails (settled goes_on judged) first middle end moment _ f (settled_passes goes_on judged first middle a.2) b
verdicts_on_join sums goes_on judged events first middle end (runs.Pass moments images) (runs.TooLong moment) f m a b =
    later_fails (settled goes_on judged) first middle end moment _ f (settled_passes goes_on judged first middle a.2) b
verdicts_on_join sums goes_on judged events first middle end (runs.Open moments images told) (runs.Pass more others) f m a b =
    let other = as_settled goes_on judged events middle end more others m b in (
      verdicts_join sums (settled goes_on judged) events first middle end (runs.Pass moments images) (runs.Pass more others) f m a.0 other.0,
      told_join judged first middle end (Some told) None a.1 other.1,
    )
verdicts_on_join sums goes_on judged events first middle end (runs.Open moments images told) (runs.Open more others further) f m a b = (
  verdicts_join sums (settled goes_on judged) events first middle end (runs.Pass moments images) (runs.Pass more others) f m a.0 b.0,
  told_join judged first middle end (Some told) (Some further) a.1 b.1,
)
verdicts_on_join sums goes_on judged events first middle end (runs.Open moments images told) (runs.Fail moment name cause of_too_many) f m a b =
    later_fails (settled goes_on judged) first middle end moment _ f a.0.2 b
verdicts_on_join sums goes_on judged events first middle end (runs.Open moments images told) (runs.TooMany moment named) f m a b =
    later_fails (settled goes_on judged) first middle end moment _ f a.0.2 b
verdicts_on_join sums goes_on judged events first middle end (runs.Open moments images told) (runs.TooLong moment) f m a b =
    later_fails (settled goes_on judged) first middle end moment _ f a.0.2 b
verdicts_on_join sums goes_on judged events first middle end (runs.Fail moment name cause of_too_many) other f m a b =
    earlier_fails (settled goes_on judged) first middle end moment _ m a
verdicts_on_join sums goes_on judged events first middle end (runs.TooMany moment named) other f m a b =
    earlier_fails (settled goes_on judged) first middle end moment _ m a
verdicts_on_join sums goes_on judged events first middle end (runs.TooLong moment) other f m a b =
    earlier_fails (settled goes_on judged) first middle end moment _ m a

-- behind a moment by which the verdict ends judging doesn't go on
ends_apart : {Cause : Type 0} (goes_on : Bool) (judged : ℕ → MomentVerdict Cause → Type 0) (m : ℕ) (verdict : MomentVerdict Cause) →
    IsJudgedOnce judged → judged m verdict → (verdict ≢ moments.Pass) → ((named : Option (List LineContents)) → verdict ≢ moments.TooMany named) →
    ¬ settled goes_on judged m moments.Pass
ends_apart goes_on judged m verdict once here passes many is = elim is [
  | inl pass ↦ passes (once m verdict moments.Pass here pass)
  | inr open' ↦ many open'.1.0 (once m verdict (moments.TooMany open'.1.0) here open'.1.1)
]

many_apart : {Cause : Type 0} (goes_on : Bool) (judged : ℕ → MomentVerdict Cause → Type 0) (m : ℕ) (named : Option (List LineContents)) →
    IsJudgedOnce judged → settled goes_on judged m (moments.TooMany named) → ¬ settled goes_on judged m moments.Pass
many_apart goes_on judged m named once here is = elim is [
  | inl pass ↦
      let same = once m (moments.TooMany named) moments.Pass here.1 pass in
      cc
  | inr open' ↦
      let on = open'.0 in
      let off = here.0 in
      cc
]

fail_apart : {Cause : Type 0} (goes_on : Bool) (judged : ℕ → MomentVerdict Cause → Type 0) (m : ℕ) (name : ImageName) (cause : Cause) (of_too_many : Bool) →
    IsJudgedOnce judged → judged m (moments.Fail name cause of_too_many) → ¬ settled goes_on judged m moments.Pass
fail_apart goes_on judged m name cause of_too_many once here =
    ends_apart goes_on judged m (moments.Fail name cause of_too_many) once here (λ e. cc) (λ named e. cc)

long_apart : {Cause : Type 0} (goes_on : Bool) (judged : ℕ → MomentVerdict Cause → Type 0) (m : ℕ) →
    IsJudgedOnce judged → judged m moments.TooLong → ¬ settled goes_on judged m moments.Pass
long_apart goes_on judged m once here = ends_apart goes_on judged m moments.TooLong once here (λ e. cc) (λ named e. cc)

settled_once : {Cause : Type 0} (goes_on : Bool) (judged : ℕ → MomentVerdict Cause → Type 0) → IsJudgedOnce judged → IsJudgedOnce (settled goes_on judged)
settled_once goes_on judged once m moments.Pass moments.Pass a b = refl
settled_once goes_on judged once m moments.Pass (moments.Fail name cause many) a b = absurd (fail_apart goes_on judged m name cause many once b a)
settled_once goes_on judged once m moments.Pass (moments.TooMany named) a b = absurd (many_apart goes_on judged m named once b a)
settled_once goes_on judged once m moments.Pass moments.TooLong a b = absurd (long_apart goes_on judged m once b a)
settled_once goes_on judged once m (moments.Fail name cause many) moments.Pass a b = absurd (fail_apart goes_on judged m name cause many once a b)
settled_once goes_on judged once m (moments.Fail name cause many) (moments.Fail other its those) a b = once m _ _ a b
settled_once goes_on judged once m (moments.Fail name cause many) (moments.TooMany named) a b = once m _ _ a b.1
settled_once goes_on judged once m (moments.Fail name cause many) moments.TooLong a b = once m _ _ a b
settled_once goes_on judged once m (moments.TooMany named) moments.Pass a b = absurd (many_apart goes_on judged m named once a b)
settled_once goes_on judged once m (moments.TooMany named) (moments.Fail other its those) a b = once m _ _ a.1 b
settled_once goes_on judged once m (moments.TooMany named) (moments.TooMany others) a b = once m _ _ a.1 b.1
settled_once goes_on judged once m (moments.TooMany named) moments.TooLong a b = once m _ _ a.1 b
settled_once goes_on judged once m moments.TooLong moments.Pass a b = absurd (long_apart goes_on judged m once a b)
settled_once goes_on judged once m moments.TooLong (moments.Fail other its those) a b = once m _ _ a b
settled_once goes_on judged once m moments.TooLong (moments.TooMany named) a b = once m _ _ a b.1
settled_once goes_on judged once m moments.TooLong moments.TooLong a b = refl

open_within : {Cause : Type 0} (judged : ℕ → MomentVerdict Cause → Type 0) (first end : ℕ) (found : List ℕ) → AreOpen judged first end found → first ≤ end
open_within judged first _ _ AreOpen.nothing = omega arith
open_within judged first _ _ (AreOpen.passes m found before pass) = omega (arith, open_within judged first m found before)
open_within judged first _ _ (AreOpen.too_many m found before here) = omega (arith, open_within judged first m found before)

-- which moments have too many branches is settled
open_once : {Cause : Type 0} (judged : ℕ → MomentVerdict Cause → Type 0) → IsJudgedOnce judged → (first end bound : ℕ) (one other : List ℕ) →
    end ≡ bound → AreOpen judged first end one → AreOpen judged first bound other → one ≡ other
open_once judged once first _ _ _ _ same AreOpen.nothing AreOpen.nothing = refl
open_once judged once first _ _ _ _ same AreOpen.nothing (AreOpen.passes m found before pass) =
    absurd (omega (arith, same, open_within judged first m found before))
open_once judged once first _ _ _ _ same AreOpen.nothing (AreOpen.too_many m found before here) =
    absurd (omega (arith, same, open_within judged first m found before))
open_once judged once first _ _ _ _ same (AreOpen.passes m found before pass) AreOpen.nothing =
    absurd (omega (arith, same, open_within judged first m found before))
open_once judged once first _ _ _ _ same (AreOpen.too_many m found before here) AreOpen.nothing =
    absurd (omega (arith, same, open_within judged first m found before))
open_once judged once first _ _ _ _ same (AreOpen.passes m found before pass) (AreOpen.passes n more earlier its) =
    open_once judged once first m n found more (omega (arith, same)) before earlier
open_once judged once first _ _ _ _ same (AreOpen.too_many m found before here) (AreOpen.too_many n more earlier its) =
    let numbers : m ≡ n = omega (arith, same) in
    let lists : found ≡ more = open_once judged once first m n found more numbers before earlier in
    rw (numbers, lists) refl
open_once judged once first _ _ _ _ same (AreOpen.passes m found before pass) (AreOpen.too_many n more earlier its) =
    let numbers : m ≡ n = omega (arith, same) in
    let verdicts = once n moments.Pass (moments.TooMany its.0) (subst (λ (k : ℕ). judged k moments.Pass) numbers pass) its.1 in
    absurd cc
open_once judged once first _ _ _ _ same (AreOpen.too_many m found before here) (AreOpen.passes n more earlier its) =
    let numbers : n ≡ m = omega (arith, same) in
    let verdicts = once m moments.Pass (moments.TooMany here.0) (subst (λ (k : ℕ). judged k moments.Pass) numbers its) here.1 in
    absurd cc

told_once : {Cause : Type 0} (judged : ℕ → MomentVerdict Cause → Type 0) → IsJudgedOnce judged → (first end : ℕ) (one other : Option OpenMoments) →
    IsOpenOf judged first end one → IsOpenOf judged first end other → one ≡ other
told_once judged once first end one other a b =
    let lists : a.0 ≡ b.0 = open_once judged once first end end a.0 b.0 refl a.1 b.1 in
    a.2 ∙ (ap open_of lists ∙ sym b.2)

-- the verdict on a row as one of moments behind which judging goes on, and what is told of those with too many branches
abbrev shadow : {Cause : Type 0} → Verdict Cause → Verdict Cause
shadow (runs.Pass number images) = runs.Pass number images
shadow (runs.Open number images told) = runs.Pass number images
shadow (runs.Fail moment name cause many) = runs.Fail moment name cause many
shadow (runs.TooMany moment named) = runs.TooMany moment named
shadow (runs.TooLong moment) = runs.TooLong moment

shadowed : {Cause : Type 0} (goes_on : Bool) (judged : ℕ → MomentVerdict Cause → Type 0) (events : List Event) (first end : ℕ) (verdict : Verdict Cause) →
    IsVerdictOn goes_on judged events first end verdict → IsVerdictBetween (settled goes_on judged) events first end (shadow verdict)
shadowed goes_on judged events first end (runs.Pass number images) is = (is.0, is.1, settled_passes goes_on judged first end is.2)
shadowed goes_on judged events first end (runs.Open number images told) is = is.0
shadowed goes_on judged events first end (runs.Fail moment name cause many) is = is
shadowed goes_on judged events first end (runs.TooMany moment named) is = is
shadowed goes_on judged events first end (runs.TooLong moment) is = is

order_of : {Cause : Type 0} (judged : ℕ → MomentVerdict Cause → Type 0) (events : List Event) (first end number : ℕ) (images : Option ℕ) →
    IsVerdictBetween judged events first end (runs.Pass number images) → first ≤ end
order_of judged events first end number images is = omega (arith, is.0)

-- a verdict that is its own shadow, and none of a pass
from_end : {Cause : Type 0} (verdict other : Verdict Cause) → ((number : ℕ) (images : Option ℕ) → verdict ≢ runs.Pass number images) →
    verdict ≡ shadow other → verdict ≡ other
from_end verdict (runs.Pass number images) fails same = same
from_end verdict (runs.Open number images told) fails same = absurd (fails number images same)
from_end verdict (runs.Fail moment name cause many) fails same = same
from_end verdict (runs.TooMany moment named) fails same = same
from_end verdict (runs.TooLong moment) fails same = same

module _ {Cause : Type 0} (goes_on : Bool) (judged : ℕ → MomentVerdict Cause → Type 0) (events : List Event) (first end : ℕ) (once : IsJudgedOnce judged) where
  from_pass : (number : ℕ) (images : Option ℕ) (other : Verdict Cause) → IsVerdictOn goes_on judged events first end (runs.Pass number images) →
      IsVerdictOn goes_on judged events first end other → runs.Pass number images ≡ shadow other → runs.Pass number images ≡ other
  from_pass number images (runs.Pass more others) a b same = same
  from_pass number images (runs.Open more others told) a b same =
      let none = none_told judged first end (order_of judged events first end number images a) a.2 in
      let one = told_once judged once first end None (Some told) none b.1 in
      absurd cc
  from_pass number images (runs.Fail moment name cause many) a b same = same
  from_pass number images (runs.TooMany moment named) a b same = same
  from_pass number images (runs.TooLong moment) a b same = same

  from_open : (number : ℕ) (images : Option ℕ) (told : OpenMoments) (other : Verdict Cause) →
      IsVerdictOn goes_on judged events first end (runs.Open number images told) → IsVerdictOn goes_on judged events first end other →
      runs.Pass number images ≡ shadow other → runs.Open number images told ≡ other
  from_open number images told (runs.Pass more others) a b same =
      let none = none_told judged first end (order_of judged events first end more others b) b.2 in
      let one = told_once judged once first end (Some told) None a.1 none in
      absurd cc
  from_open number images told (runs.Open more others its) a b same =
      let one = told_once judged once first end (Some told) (Some its) a.1 b.1 in
      cc
  from_open number images told (runs.Fail moment name cause many) a b same = cc
  from_open number images told (runs.TooMany moment named) a b same = cc
  from_open number images told (runs.TooLong moment) a b same = cc

  from_shadows : (verdict other : Verdict Cause) → IsVerdictOn goes_on judged events first end verdict →
      IsVerdictOn goes_on judged events first end other → shadow verdict ≡ shadow other → verdict ≡ other
  from_shadows (runs.Pass number images) other a b same = from_pass number images other a b same
  from_shadows (runs.Open number images told) other a b same = from_open number images told other a b same
  from_shadows (runs.Fail moment name cause many) other a b same = from_end _ other (λ number images e. cc) same
  from_shadows (runs.TooMany moment named) other a b same = from_end _ other (λ number images e. cc) same
  from_shadows (runs.TooLong moment) other a b same = from_end _ other (λ number images e. cc) same

  pub verdict_on_once : (verdict other : Verdict Cause) → IsVerdictOn goes_on judged events first end verdict →
      IsVerdictOn goes_on judged events first end other → verdict ≡ other
  verdict_on_once verdict other a b =
      let same : shadow verdict ≡ shadow other = verdict_once (settled goes_on judged) events first end (shadow verdict) (shadow other)
      (settled_once goes_on judged once) (shadowed goes_on judged events first end verdict a) (shadowed goes_on judged events first end other b) in
      from_shadows verdict other a b same
