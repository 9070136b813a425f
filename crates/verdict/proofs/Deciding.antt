-- A moment has one verdict where each image is found to be one thing, and so has a row of moments where each of them has one: the moment,
-- the image's name and the cause, or the numbers of moments and images, are settled by it.
use Rattle.std.proofs.Common.{◌≡◌, ℕ, ◌<◌, ◌⊎◌, inl, inr, Bool, true, false, true≢false, List, [], ◌∷◌, get_or, refl, sym, ap, subst, ◌∙◌, arith, Option, Some, None}
use Rattle.std.proofs.lemmas.Bool.{cases_lt}
use Rattle.crash_image.specs.Named.{IsNameOf}
use Rattle.crash_image.specs.Totals.{IsImageSum}
use Rattle.store_trace.proofs.Radix.{cuts_order, length_cuts, radix_number, radix_number_place}
use Rattle.store_trace.specs.Cut.{IsBefore, IsCut, cut_count, cuts, number_in}
use Rattle.store_trace.specs.declared.crash_model.step.PersistenceStep.{PersistenceStep}
use Rattle.text.specs.declared.image_name.name.ImageName.{ImageName}
use Rattle.text.specs.declared.image_name.name.ImageName.TheVariants.{Number, Cut}
use Rattle.store_trace.specs.declared.event.Event.{Event}
use Rattle.verdict.specs.Verdicts.{HasManyBranches, IsLeastBad, IsLeastMoment, IsMomentVerdict, IsVerdictBetween}
use Rattle.verdict.specs.declared.branches.question.Question.{Question}
use Rattle.verdict.specs.declared.moment_verdict.contents.LineContents.{LineContents}
use Rattle.verdict.specs.declared.moment_verdict.verdict.MomentVerdict.{MomentVerdict}
use Rattle.verdict.specs.declared.moment_verdict.verdict.MomentVerdict.TheVariants as moments
use Rattle.verdict.specs.declared.moment_verdict.verdict.Verdict.{Verdict}
use Rattle.verdict.specs.declared.moment_verdict.verdict.Verdict.TheVariants as runs

-- no cut is before itself, and of two cuts one is before the other
not_before : (c : List (ℕ × ℕ)) → ¬ IsBefore c c
not_before [] h = h
not_before (x ∷ c) h = elim h [
  | inl less ↦ absurd (omega (arith, less))
  | inr both ↦ not_before c both.1
]

-- the cuts of two numbers
numbers_order : (p : List PersistenceStep) (i j : ℕ) (c d : List (ℕ × ℕ)) → i < j → j < cut_count p → get_or (cuts p) i [] ≡ c → get_or (cuts p) j [] ≡ d →
    IsBefore c d
numbers_order p i j c d b h e f = rw (← e, ← f) (cuts_order p i j [] b (omega (arith, h, length_cuts p)))

one_before : (p : List PersistenceStep) (c d : List (ℕ × ℕ)) → IsCut p c → IsCut p d → (c ≡ d) ⊎ (IsBefore c d ⊎ IsBefore d c)
one_before p c d a b =
    let mine = radix_number_place p c a in
    let its = radix_number_place p d b in
    elim (cases_lt (radix_number p c) (radix_number p d)) [
      | inl less ↦ inr (inl (numbers_order p (radix_number p c) (radix_number p d) c d less its.0 mine.1 its.1))
      | inr late ↦ elim (cases_lt (radix_number p d) (radix_number p c)) [
        | inl less ↦ inr (inr (numbers_order p (radix_number p d) (radix_number p c) d c less mine.0 its.1 mine.1))
        | inr level ↦
            let same : radix_number p c ≡ radix_number p d = omega (arith, late, level) in
            inl (sym mine.1 ∙ ap (λ (n : ℕ). get_or (cuts p) n []) same ∙ its.1)
      ]
    ]

-- a cut has one number
number_once : (p : List PersistenceStep) (cut : List (ℕ × ℕ)) (n m : ℕ) → n < cut_count p → m < cut_count p → cut ≡ get_or (cuts p) n [] → cut ≡ get_or (cuts p) m [] →
    n ≡ m
number_once p cut n m a b e f = elim (cases_lt n m) [
  | inl less ↦ absurd (not_before cut (numbers_order p n m cut cut less b (sym e) (sym f)))
  | inr late ↦ elim (cases_lt m n) [
    | inl less ↦ absurd (not_before cut (numbers_order p m n cut cut less a (sym f) (sym e)))
    | inr level ↦ omega (arith, late, level)
  ]
]

-- and is told by one name
name_once : (p : List PersistenceStep) (cut : List (ℕ × ℕ)) (name other : ImageName) → IsNameOf p cut name → IsNameOf p cut other → name ≡ other
name_once p cut (Number n) (Number m) a b = ap (λ (k : ℕ). Number k) (number_once p cut n m a.1 b.1 a.2 b.2)
name_once p cut (Number n) (Cut lines) a b = absurd (omega (arith, a.0, b.0))
name_once p cut (Cut lines) (Number n) a b = absurd (omega (arith, a.0, b.0))
name_once p cut (Cut lines) (Cut others) a b = ap (λ (ls : List (ℕ × ℕ)). Cut ls) (a.1 ∙ sym b.1)

-- an image is found to be one thing
abbrev pub IsFoundOnce : {Cause : Type 0} → ((ℕ → ℕ) → Option Cause → Type 0) → Type 0
IsFoundOnce {Cause} found = (k : ℕ → ℕ) (one other : Option Cause) → found k one → found k other → one ≡ other

good_unspoilt : {Cause : Type 0} (found : (ℕ → ℕ) → Option Cause → Type 0) (k : ℕ → ℕ) (cause : Cause) → IsFoundOnce found → found k None → ¬ found k (Some cause)
good_unspoilt found k cause once good bad = let e = once k None (Some cause) good bad in cc

-- a moment has one least bad cut
least_once : {Cause : Type 0} (found : (ℕ → ℕ) → Option Cause → Type 0) (p : List PersistenceStep) (cut other : List (ℕ × ℕ)) (cause its : Cause) → IsFoundOnce found →
    IsLeastBad found p cut cause → IsLeastBad found p other its → cut ≡ other
least_once found p cut other cause its once a b = elim (one_before p cut other a.there b.there) [
  | inl same ↦ same
  | inr (inl earlier) ↦ absurd (good_unspoilt found (number_in cut) cause once (b.least cut a.there earlier) a.bad)
  | inr (inr later) ↦ absurd (good_unspoilt found (number_in other) its once (a.least other b.there later) b.bad)
]

cause_once : {Cause : Type 0} (found : (ℕ → ℕ) → Option Cause → Type 0) (k : ℕ → ℕ) (cause its : Cause) → IsFoundOnce found → found k (Some cause) → found k (Some its) →
    cause ≡ its
cause_once found k cause its once a b = let e = once k (Some cause) (Some its) a b in cc

has_many : {Cause : Type 0} (alike : Question → ℕ → ℕ → Bool) (asks : (ℕ → ℕ) → List Question → Type 0) (found : (ℕ → ℕ) → Option Cause → Type 0) (p : List PersistenceStep)
    (lines : Option (List LineContents)) → IsMomentVerdict false alike asks found p (moments.TooMany lines) → HasManyBranches alike asks p
has_many alike asks found p None a = a.0
has_many alike asks found p (Some named) a = a.0

-- and one verdict, where no further images are tried
fail_once : {Cause : Type 0} (alike : Question → ℕ → ℕ → Bool) (asks : (ℕ → ℕ) → List Question → Type 0) (found : (ℕ → ℕ) → Option Cause → Type 0) (p : List PersistenceStep) (name other : ImageName)
    (cause its : Cause) → IsFoundOnce found → IsMomentVerdict false alike asks found p (moments.Fail name cause false) →
    IsMomentVerdict false alike asks found p (moments.Fail other its false) → (name ≡ other) × (cause ≡ its)
fail_once alike asks found p name other cause its once a b =
    let mine = a.1 in
    let theirs = b.1 in
    let same : mine.0 ≡ theirs.0 = least_once found p mine.0 theirs.0 cause its once mine.2 theirs.2 in
    let named : IsNameOf p mine.0 other = subst (λ (c : List (ℕ × ℕ)). IsNameOf p c other) (sym same) theirs.1 in
    let bad : IsLeastBad found p mine.0 its = subst (λ (c : List (ℕ × ℕ)). IsLeastBad found p c its) (sym same) theirs.2 in
    (name_once p mine.0 name other mine.1 named, cause_once found (number_in mine.0) cause its once mine.2.bad bad.bad)

pub moment_once : {Cause : Type 0} (alike : Question → ℕ → ℕ → Bool) (asks : (ℕ → ℕ) → List Question → Type 0) (found : (ℕ → ℕ) → Option Cause → Type 0) (p : List PersistenceStep)
    (verdict other : MomentVerdict Cause) → IsFoundOnce found → IsMomentVerdict false alike asks found p verdict → IsMomentVerdict false alike asks found p other →
    verdict ≡ other
moment_once alike asks found p moments.Pass moments.Pass once a b = refl
moment_once alike asks found p moments.Pass (moments.Fail other its false) once a b =
    absurd (good_unspoilt found _ its once (a.1 b.1.0 b.1.2.there) b.1.2.bad)
moment_once alike asks found p moments.Pass (moments.Fail other its true) once a b = absurd (a.0 b.0)
moment_once alike asks found p verdict moments.TooLong once a b = absurd b
moment_once alike asks found p moments.TooLong other once a b = absurd a
moment_once alike asks found p moments.Pass (moments.TooMany lines) once a b = absurd (a.0 (has_many alike asks found p lines b))
moment_once alike asks found p (moments.Fail name cause true) other once a b = absurd (true≢false (sym a.1))
moment_once alike asks found p (moments.Fail name cause false) moments.Pass once a b =
    absurd (good_unspoilt found _ cause once (b.1 a.1.0 a.1.2.there) a.1.2.bad)
moment_once alike asks found p (moments.Fail name cause false) (moments.Fail other its false) once a b =
    let same = fail_once alike asks found p name other cause its once a b in
    rw (same.0, same.1) refl
moment_once alike asks found p (moments.Fail name cause false) (moments.Fail other its true) once a b = absurd (a.0 b.0)
moment_once alike asks found p (moments.Fail name cause false) (moments.TooMany lines) once a b = absurd (a.0 (has_many alike asks found p lines b))
moment_once alike asks found p (moments.TooMany lines) moments.Pass once a b = absurd (b.0 (has_many alike asks found p lines a))
moment_once alike asks found p (moments.TooMany lines) (moments.Fail other its false) once a b = absurd (b.0 (has_many alike asks found p lines a))
moment_once alike asks found p (moments.TooMany lines) (moments.Fail other its true) once a b = absurd (true≢false (sym b.1))
moment_once alike asks found p (moments.TooMany None) (moments.TooMany None) once a b = refl
moment_once alike asks found p (moments.TooMany None) (moments.TooMany (Some named)) once a b = absurd (true≢false (sym b.1))
moment_once alike asks found p (moments.TooMany (Some named)) (moments.TooMany lines) once a b = absurd (true≢false (sym a.1))

-- each moment has one verdict
abbrev pub IsJudgedOnce : {Cause : Type 0} → (ℕ → MomentVerdict Cause → Type 0) → Type 0
IsJudgedOnce {Cause} judged = (m : ℕ) (one other : MomentVerdict Cause) → judged m one → judged m other → one ≡ other

-- a row has one least moment that doesn't pass, and none where all pass
moment_fails : {Cause : Type 0} (judged : ℕ → MomentVerdict Cause → Type 0) (moment : ℕ) (verdict : MomentVerdict Cause) → IsJudgedOnce judged →
    ¬ (verdict ≡ moments.Pass) → judged moment moments.Pass → ¬ judged moment verdict
moment_fails judged moment verdict once fails pass here = fails (once moment verdict moments.Pass here pass)

least_moment_once : {Cause : Type 0} (judged : ℕ → MomentVerdict Cause → Type 0) (first end moment its : ℕ) (verdict other : MomentVerdict Cause) →
    IsJudgedOnce judged → ¬ (verdict ≡ moments.Pass) → ¬ (other ≡ moments.Pass) → IsLeastMoment judged first end moment verdict →
    IsLeastMoment judged first end its other → (moment ≡ its) × (verdict ≡ other)
least_moment_once judged first end moment its verdict other once fails none a b = elim (cases_lt moment its) [
  | inl earlier ↦ absurd (moment_fails judged moment verdict once fails (b.passed moment a.from earlier) a.here)
  | inr late ↦ elim (cases_lt its moment) [
    | inl earlier ↦ absurd (moment_fails judged its other once none (a.passed its b.from earlier) b.here)
    | inr level ↦
        let same : moment ≡ its = omega (arith, late, level) in
        let theirs : judged moment other = subst (λ (m : ℕ). judged m other) (sym same) b.here in
        (same, once moment verdict other a.here theirs)
  ]
]

-- and one number of images
total_once : (events : List Event) (first end : ℕ) (images other : Option ℕ) → IsImageSum events first end images → IsImageSum events first end other →
    images ≡ other
total_once events first end None None a b = refl
total_once events first end None (Some total) a b = absurd (omega (arith, a.3, b.1 a.0 a.1 a.2))
total_once events first end (Some total) None a b = absurd (omega (arith, b.3, a.1 b.0 b.1 b.2))
total_once events first end (Some total) (Some other) a b = ap (λ (n : ℕ). Some n) (a.0 ∙ sym b.0)

pass_and_fail : {Cause : Type 0} (judged : ℕ → MomentVerdict Cause → Type 0) (events : List Event) (first end count moment : ℕ) (images : Option ℕ)
    (verdict : MomentVerdict Cause) → IsJudgedOnce judged → ¬ (verdict ≡ moments.Pass) → IsVerdictBetween judged events first end (runs.Pass count images) →
    ¬ IsLeastMoment judged first end moment verdict
pass_and_fail judged events first end count moment images verdict once fails a b =
    moment_fails judged moment verdict once fails (a.2 moment b.from b.there) b.here

not_fail : {Cause : Type 0} (name : ImageName) (cause : Cause) (of_too_many : Bool) → ¬ (moments.Fail name cause of_too_many ≡ moments.Pass)
not_fail name cause of_too_many e = cc

-- the moment has too many branches
abbrev many : (Cause : Type 0) → Option (List LineContents) → MomentVerdict Cause
many Cause lines = moments.TooMany lines

-- what is right there can't be told
abbrev long : (Cause : Type 0) → MomentVerdict Cause
long Cause = moments.TooLong

not_many : (Cause : Type 0) (lines : Option (List LineContents)) → ¬ (many Cause lines ≡ moments.Pass)
not_many Cause lines e = cc

not_long : (Cause : Type 0) → ¬ (long Cause ≡ moments.Pass)
not_long Cause e = cc

pub verdict_once : {Cause : Type 0} (judged : ℕ → MomentVerdict Cause → Type 0) (events : List Event) (first end : ℕ) (verdict other : Verdict Cause) →
    IsJudgedOnce judged → IsVerdictBetween judged events first end verdict → IsVerdictBetween judged events first end other → verdict ≡ other
verdict_once {Cause} judged events first end (runs.Pass count images) (runs.Pass same others) once a b =
    let numbers : count ≡ same = omega (arith, a.0, b.0) in
    let totals : images ≡ others = total_once events first end images others a.1 b.1 in
    rw (numbers, totals) refl
verdict_once {Cause} judged events first end (runs.Open count images told) other once a b = absurd a
verdict_once {Cause} judged events first end (runs.Pass count images) (runs.Open more others told) once a b = absurd b
verdict_once {Cause} judged events first end (runs.Fail moment name cause one) (runs.Open more others told) once a b = absurd b
verdict_once {Cause} judged events first end (runs.TooMany moment lines) (runs.Open more others told) once a b = absurd b
verdict_once {Cause} judged events first end (runs.TooLong moment) (runs.Open more others told) once a b = absurd b
verdict_once {Cause} judged events first end (runs.Pass count images) (runs.Fail moment name cause many) once a b =
    absurd (pass_and_fail judged events first end count moment images (moments.Fail name cause many) once (not_fail name cause many) a b)
verdict_once {Cause} judged events first end (runs.Pass count images) (runs.TooMany moment lines) once a b =
    absurd (pass_and_fail judged events first end count moment images (moments.TooMany lines) once (not_many Cause lines) a b)
verdict_once {Cause} judged events first end (runs.Fail moment name cause many) (runs.Pass count images) once a b =
    absurd (pass_and_fail judged events first end count moment images (moments.Fail name cause many) once (not_fail name cause many) b a)
verdict_once {Cause} judged events first end (runs.Fail moment name cause one) (runs.Fail its other theirs two) once a b =
    let same = least_moment_once judged first end moment its (moments.Fail name cause one) (moments.Fail other theirs two) once (not_fail name cause one)
    (not_fail other theirs two) a b in
    let moments_same = same.0 in
    let verdicts_same = same.1 in
    cc
verdict_once {Cause} judged events first end (runs.Fail moment name cause one) (runs.TooMany its lines) once a b =
    let same = least_moment_once judged first end moment its (moments.Fail name cause one) (moments.TooMany lines) once (not_fail name cause one) (not_many Cause lines) a b in
    let verdicts_same = same.1 in
    cc
verdict_once {Cause} judged events first end (runs.TooMany moment lines) (runs.Pass count images) once a b =
    absurd (pass_and_fail judged events first end count moment images (moments.TooMany lines) once (not_many Cause lines) b a)
verdict_once {Cause} judged events first end (runs.TooMany moment lines) (runs.Fail its other theirs two) once a b =
    let same = least_moment_once judged first end moment its (moments.TooMany lines) (moments.Fail other theirs two) once (not_many Cause lines) (not_fail other theirs two) a b in
    let verdicts_same = same.1 in
    cc
verdict_once {Cause} judged events first end (runs.TooMany moment lines) (runs.TooMany its others) once a b =
    let same = least_moment_once judged first end moment its (moments.TooMany lines) (moments.TooMany others) once (not_many Cause lines) (not_many Cause others) a b in
    let moments_same = same.0 in
    let verdicts_same = same.1 in
    cc
verdict_once {Cause} judged events first end (runs.TooLong moment) (runs.Pass count images) once a b =
    absurd (pass_and_fail judged events first end count moment images moments.TooLong once (not_long Cause) b a)
verdict_once {Cause} judged events first end (runs.Pass count images) (runs.TooLong moment) once a b =
    absurd (pass_and_fail judged events first end count moment images moments.TooLong once (not_long Cause) a b)
verdict_once {Cause} judged events first end (runs.TooLong moment) (runs.Fail its other theirs two) once a b =
    let same = least_moment_once judged first end moment its moments.TooLong (moments.Fail other theirs two) once (not_long Cause) (not_fail other theirs two) a b in
    let verdicts_same = same.1 in
    cc
verdict_once {Cause} judged events first end (runs.Fail moment name cause one) (runs.TooLong its) once a b =
    let same = least_moment_once judged first end moment its (moments.Fail name cause one) moments.TooLong once (not_fail name cause one) (not_long Cause) a b in
    let verdicts_same = same.1 in
    cc
verdict_once {Cause} judged events first end (runs.TooLong moment) (runs.TooMany its lines) once a b =
    let same = least_moment_once judged first end moment its moments.TooLong (moments.TooMany lines) once (not_long Cause) (not_many Cause lines) a b in
    let verdicts_same = same.1 in
    cc
verdict_once {Cause} judged events first end (runs.TooMany moment lines) (runs.TooLong its) once a b =
    let same = least_moment_once judged first end moment its (moments.TooMany lines) moments.TooLong once (not_many Cause lines) (not_long Cause) a b in
    let verdicts_same = same.1 in
    cc
verdict_once {Cause} judged events first end (runs.TooLong moment) (runs.TooLong its) once a b =
    let same = least_moment_once judged first end moment its moments.TooLong moments.TooLong once (not_long Cause) (not_long Cause) a b in
    ap (λ (m : ℕ). runs.TooLong m) same.0
