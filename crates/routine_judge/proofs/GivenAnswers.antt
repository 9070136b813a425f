-- The right answers of some moments, each with the moment that gives it, one moment more.
use Rattle.std.proofs.Common.{◌≡◌, ◌||◌, ◌==◌, ◌⊎◌, ℕ, ◌+◌, ◌<◌, ◌≤◌, Bool, true, false, nat_le, nat_lt, inl, inr, refl, List, [], ◌∷◌, ◌++◌, length, length-append, get_or, ap, sym, subst, ◌∙◌, arith, Result, Ok, Err, eqb-true}
use Rattle.std.specs.Prelude.{◌&&◌}
use Rattle.std.specs.List.{All, AllPairs, Any}
use Rattle.std.proofs.lemmas.Bool.{cases_eq}
use Rattle.std.proofs.lemmas.Bool.Decides.{nat_tests}
use Rattle.std.proofs.lemmas.List.{get_or_append_left}
use Rattle.std.proofs.lemmas.List.Elements.{All-get_or, All-push, All-weaker}
use Rattle.std.proofs.lemmas.List.Quantifiers.{Any-push, all_pairs_push}
use Rattle.recovery.specs.declared.recovery_run.Cause as run
use Rattle.routine_judge.proofs.Gathering.{here_too, or_cases, or_first, shows_once}
use Rattle.routine_judge.specs.Images.{full_cut}
use Rattle.routine_judge.specs.RightAnswers.{IsRightWindow, ShowsFull, is_among}
use Rattle.routine_judge.specs.RightMoments.{AreGivenBy, IsAddedOnce, IsLeastOf, gives, is_moment}
use Rattle.routine_judge.specs.Views.{JudgeView}
use Rattle.routine_judge.specs.Windows.{IsWindow}
use Rattle.routine_judge.specs.declared.history.moments.Window.{Window}
use Rattle.routine_judge.specs.declared.history.moments.Window.TheVariants.{Itself, Either, Through}
use Rattle.routine_judge.specs.declared.right_moments.RightAnswer.{RightAnswer}

abbrev Found : Type 0
Found = Result (List ℕ) run.Cause

-- the same moments, told otherwise
least_alike : (view : JudgeView) (among other : ℕ → Bool) (i : ℕ) (bytes : List ℕ) → ((j : ℕ) → among j ≡ other j) → IsLeastOf view among i bytes →
    IsLeastOf view other i bytes
least_alike view among other i bytes same l = record {
  here = sym (same i) ∙ l.here;
  shows = l.shows;
  least = λ j t s. l.least j (same j ∙ t) s;
}

pub given_alike : (view : JudgeView) (among other : ℕ → Bool) (right : List RightAnswer) → ((j : ℕ) → among j ≡ other j) → AreGivenBy view among right →
    AreGivenBy view other right
given_alike view among other right same are = record {
  upwards = are.upwards;
  each = All-weaker (λ (r : RightAnswer). IsLeastOf view among r.moment r.answer) (λ (r : RightAnswer). IsLeastOf view other r.moment r.answer)
      (λ r l. least_alike view among other r.moment r.answer same l) right are.each;
  all = λ i bytes t s. are.all i bytes (same i ∙ t) s;
}

-- an answer that an earlier moment gives
least_more : (view : JudgeView) (among : ℕ → Bool) (moment i : ℕ) (bytes : List ℕ) → ((j : ℕ) → among j ≡ true → j < moment) → IsLeastOf view among i bytes →
    IsLeastOf view (λ j. among j || (j == moment)) i bytes
least_more view among moment i bytes before l = record {
  here = or_first (among i) (i == moment) l.here;
  shows = l.shows;
  least = λ j t s. elim (or_cases (among j) (j == moment) t) [
    | inl earlier ↦ l.least j earlier s
    | inr here ↦ let at = eqb-true j moment here in let b = before i l.here in omega (arith, at, b)
  ];
}

each_more : (view : JudgeView) (among : ℕ → Bool) (moment : ℕ) (right : List RightAnswer) → ((j : ℕ) → among j ≡ true → j < moment) →
    All (λ (r : RightAnswer). IsLeastOf view among r.moment r.answer) right →
    All (λ (r : RightAnswer). IsLeastOf view (λ j. among j || (j == moment)) r.moment r.answer) right
each_more view among moment right before each =
    All-weaker (λ (r : RightAnswer). IsLeastOf view among r.moment r.answer) (λ (r : RightAnswer). IsLeastOf view (λ j. among j || (j == moment)) r.moment r.answer)
    (λ r l. least_more view among moment r.moment r.answer before l) right each

-- one moment more, which gives nothing new
pub given_still : (view : JudgeView) (among : ℕ → Bool) (moment : ℕ) (right : List RightAnswer) → ((j : ℕ) → among j ≡ true → j < moment) →
    ((bytes : List ℕ) → ShowsFull view moment (Ok bytes) → Any (gives bytes) right) → AreGivenBy view among right →
    AreGivenBy view (λ j. among j || (j == moment)) right
given_still view among moment right before there are = record {
  upwards = are.upwards;
  each = each_more view among moment right before are.each;
  all = λ i bytes t s. elim (or_cases (among i) (i == moment) t) [
    | inl earlier ↦ are.all i bytes earlier s
    | inr here ↦ there bytes (subst (λ (n : ℕ). ShowsFull view n (Ok bytes)) (eqb-true i moment here) s)
  ];
}

any_before : (P : RightAnswer → Type 0) (right : List RightAnswer) (given : RightAnswer) → Any P right → Any P (right ++ given ∷ [])
any_before P right given a =
    let size = length-append right (given ∷ []) in
    (a.0, a.1, omega (arith, size, a.2), get_or_append_left right (given ∷ []) a.1 a.0 a.2 ∙ a.3, a.4)

-- one moment more, which gives a new answer
given_new : (view : JudgeView) (among : ℕ → Bool) (given : RightAnswer) (right : List RightAnswer) → ((j : ℕ) → among j ≡ true → j < given.moment) →
    ShowsFull view given.moment (Ok given.answer) → ¬ Any (gives given.answer) right → AreGivenBy view among right →
    AreGivenBy view (λ j. among j || (j == given.moment)) (right ++ given ∷ [])
given_new view among given right before shown none are = record {
  upwards = all_pairs_push (λ (one other : RightAnswer). one.moment < other.moment) right given are.upwards
      (λ k d inside. before (get_or right k d).moment (All-get_or (λ (r : RightAnswer). IsLeastOf view among r.moment r.answer) right k d inside are.each).here);
  each =
      let own : IsLeastOf view (λ j. among j || (j == given.moment)) given.moment given.answer = record {
        here = here_too among given.moment;
        shows = shown;
        least = λ j t s. elim (or_cases (among j) (j == given.moment) t) [
          | inl earlier ↦ absurd (none (are.all j given.answer earlier s))
          | inr here ↦ let at = eqb-true j given.moment here in omega (arith, at)
        ];
      } in
      All-push (λ (r : RightAnswer). IsLeastOf view (λ j. among j || (j == given.moment)) r.moment r.answer) right given
      (each_more view among given.moment right before are.each) own;
  all = λ i bytes t s. elim (or_cases (among i) (i == given.moment) t) [
    | inl earlier ↦ any_before (gives bytes) right given (are.all i bytes earlier s)
    | inr here ↦
        let found : ShowsFull view given.moment (Ok bytes) = subst (λ (n : ℕ). ShowsFull view n (Ok bytes)) (eqb-true i given.moment here) s in
        let one : ◌≡◌ {A = Found} (Ok given.answer) (Ok bytes) = shows_once view given.moment (full_cut view.events given.moment) (Ok given.answer) (Ok bytes) shown found in
        let same : given.answer ≡ bytes = cc in
        Any-push (gives bytes) right given same
  ];
}

-- a moment more on whose full image the routine has an answer, and one on which it has none
pub given_answer : (view : JudgeView) (among : ℕ → Bool) (given : RightAnswer) (old new : List RightAnswer) → IsAddedOnce given old new →
    ((j : ℕ) → among j ≡ true → j < given.moment) → ShowsFull view given.moment (Ok given.answer) → AreGivenBy view among old →
    AreGivenBy view (λ j. among j || (j == given.moment)) new
given_answer view among given old new (inl there) before shown are =
    subst (λ (right : List RightAnswer). AreGivenBy view (λ j. among j || (j == given.moment)) right) (sym there.1)
    (given_still view among given.moment old before
    (λ bytes s.
    let one : ◌≡◌ {A = Found} (Ok given.answer) (Ok bytes) = shows_once view given.moment (full_cut view.events given.moment) (Ok given.answer) (Ok bytes) shown s in
    let same : given.answer ≡ bytes = cc in
    subst (λ (b : List ℕ). Any (gives b) old) same there.0)
    are)
given_answer view among given old new (inr added) before shown are =
    subst (λ (right : List RightAnswer). AreGivenBy view (λ j. among j || (j == given.moment)) right) (sym added.1)
    (given_new view among given old before shown added.0 are)

pub given_none : (view : JudgeView) (among : ℕ → Bool) (moment : ℕ) (cause : run.Cause) (right : List RightAnswer) → ((j : ℕ) → among j ≡ true → j < moment) →
    ShowsFull view moment (Err cause) → AreGivenBy view among right → AreGivenBy view (λ j. among j || (j == moment)) right
given_none view among moment cause right before shown are =
    given_still view among moment right before
    (λ bytes s.
    let one : ◌≡◌ {A = Found} (Err cause) (Ok bytes) = shows_once view moment (full_cut view.events moment) (Err cause) (Ok bytes) shown s in
    absurd cc)
    are

-- the answers of no moment
pub given_nothing : (view : JudgeView) (among : ℕ → Bool) → ((i : ℕ) → ¬ (among i ≡ true)) → AreGivenBy view among []
given_nothing view among none = record {
  upwards = λ i j d before inside. absurd (omega (arith, inside));
  each = λ k d inside. absurd (omega (arith, inside));
  all = λ i bytes t s. absurd (none i t);
}

-- of some moments those below another, which is one of them or isn't, and all of them
below_taken : (among : ℕ → Bool) (at i : ℕ) → among at ≡ true → ((among i && nat_lt i at) || (i == at)) ≡ (among i && nat_lt i (at + 1))
below_taken among at i here = elim (cases_eq i at) [
  | inl same ↦ subst (λ (n : ℕ). ((among n && nat_lt n at) || (n == at)) ≡ (among n && nat_lt n (at + 1))) (sym same) (grind (arith, nat_tests, here))
  | inr other ↦ grind (arith, nat_tests, other)
]

below_left : (among : ℕ → Bool) (at i : ℕ) → among at ≡ false → (among i && nat_lt i at) ≡ (among i && nat_lt i (at + 1))
below_left among at i gone = elim (cases_eq i at) [
  | inl same ↦ subst (λ (n : ℕ). (among n && nat_lt n at) ≡ (among n && nat_lt n (at + 1))) (sym same) (grind (arith, nat_tests, gone))
  | inr other ↦ grind (arith, nat_tests, other)
]

below_it : (among : ℕ → Bool) (at i : ℕ) → (among i && nat_lt i at) ≡ true → i < at
below_it among at i t = grind (arith, nat_tests, t)

pub given_taken : (view : JudgeView) (among : ℕ → Bool) (at : ℕ) (found : Found) (old new : List RightAnswer) → among at ≡ true → ShowsFull view at found →
    ((v : JudgeView) (w : ℕ → Bool) → ((i : ℕ) → w i ≡ true → i < at) → ShowsFull v at found → AreGivenBy v w old → AreGivenBy v (λ i. w i || (i == at)) new) →
    AreGivenBy view (λ i. among i && nat_lt i at) old → AreGivenBy view (λ i. among i && nat_lt i (at + 1)) new
given_taken view among at found old new here shown adds are =
    given_alike view (λ i. (among i && nat_lt i at) || (i == at)) (λ i. among i && nat_lt i (at + 1)) new (λ i. below_taken among at i here)
    (adds view (λ i. among i && nat_lt i at) (below_it among at) shown are)

pub given_left : (view : JudgeView) (among : ℕ → Bool) (at : ℕ) (right : List RightAnswer) → among at ≡ false →
    AreGivenBy view (λ i. among i && nat_lt i at) right → AreGivenBy view (λ i. among i && nat_lt i (at + 1)) right
given_left view among at right gone are =
    given_alike view (λ i. among i && nat_lt i at) (λ i. among i && nat_lt i (at + 1)) right (λ i. below_left among at i gone) are

-- none of them lies past the last one
within_all : (among : ℕ → Bool) (count i : ℕ) → ((j : ℕ) → among j ≡ true → j < count) → (among i && nat_lt i count) ≡ among i
within_all among count i inside = cases (among i) refl where
  cases : (b : Bool) → among i ≡ b → (among i && nat_lt i count) ≡ among i
  cases true e = let under = inside i e in grind (arith, nat_tests, under, e)
  cases false e = grind (arith, e)

pub given_whole : (view : JudgeView) (among : ℕ → Bool) (count : ℕ) (right : List RightAnswer) → ((j : ℕ) → among j ≡ true → j < count) →
    AreGivenBy view (λ i. among i && nat_lt i count) right → AreGivenBy view among right
given_whole view among count right inside are =
    given_alike view (λ i. among i && nat_lt i count) among right (λ i. within_all among count i inside) are

-- the moments of a window lie in the run
pub among_within : (view : JudgeView) (m i : ℕ) (window : Window) → m ≤ length view.events → IsRightWindow view m window →
    ((before after : ℕ) → IsWindow view.events m (Either before after) → (before < m) × (m ≤ after) × (after ≤ length view.events)) →
    ((first last : ℕ) → IsWindow view.events m (Through first last) → (first < m) × (m ≤ last) × (last ≤ length view.events)) →
    is_among window m i ≡ true → i < length view.events + 1
among_within view m i Itself there is either through t = let e = eqb-true i m t in omega (arith, e, there)
among_within view m i (Either before after) there is either through t =
    let lies = either before after is in
    elim (or_cases (i == before) (i == after) t) [
      | inl first ↦ let e = eqb-true i before first in omega (arith, e, lies, there)
      | inr last ↦ let e = eqb-true i after last in omega (arith, e, lies)
    ]
among_within view m i (Through first last) there is either through t =
    let lies = through is.0 last is.1 in
    let e : i ≤ last = grind (arith, nat_tests, t) in
    omega (arith, e, lies)

-- all moments of the run, as those of a window
pub all_inside : (count m i : ℕ) → is_among (Through 0 count) m i ≡ true → i < count + 1
all_inside count m i t =
    let e : i ≤ count = grind (arith, nat_tests, t) in
    omega (arith, e)

pub all_alike : (count m i : ℕ) → is_among (Through 0 count) m i ≡ nat_le i count
all_alike count m i = grind (arith, nat_tests)

pub full_given : (view : JudgeView) (last m : ℕ) (right : List RightAnswer) → last ≡ length view.events → AreGivenBy view (is_among (Through 0 last) m) right →
    AreGivenBy view (is_moment view) right
full_given view last m right is are =
    given_alike view (is_among (Through 0 last) m) (is_moment view) right (λ i. all_alike last m i ∙ ap (λ (n : ℕ). nat_le i n) is) are
