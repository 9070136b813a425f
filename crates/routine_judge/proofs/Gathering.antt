-- Right answers, one full image more.
use Rattle.std.proofs.Common.{◌≡◌, ◌↔◌, ◌⊎◌, ◌==◌, ◌||◌, ℕ, ◌+◌, ◌<◌, ◌≤◌, ◌≢◌, Bool, true, false, inl, inr, List, [], refl, sym, ap, subst, ◌∙◌, arith, Option, Some, None, Result, Ok, Err, eqb-true, eq-eqb}
use Rattle.std.specs.List.{Contains}
use Rattle.std.specs.Prelude.{◌&&◌, IfSome, OnOk, nat_le, nat_lt}
use Rattle.std.proofs.lemmas.Bool.Decides.{nat_tests}
use Rattle.store_trace.proofs.Images.{image_same}
use Rattle.store_trace.specs.Image.{image}
use Rattle.machine.specs.Run.{Config, started}
use Rattle.recovery.proofs.Limited.{ends_once}
use Rattle.recovery.specs.Answers.{answer}
use Rattle.recovery.specs.Recovery.{RunsFor}
use Rattle.recovery.specs.declared.recovery_run.Cause as run
use Rattle.recovery.specs.declared.recovery_run.Cause.TheVariants.{Running}
use Rattle.store_trace.specs.History.{at_moment}
use Rattle.std.specs.declared.alloc.Global.{Global}
use Rattle.std.specs.declared.vec.Vec.{Vec}
use Rattle.routine_judge.specs.Gathered.{AreAnswers, AreKept, IsAdded}
use Rattle.routine_judge.specs.Images.{full_cut}
use Rattle.routine_judge.specs.RightAnswers.{HasLastCause, IsFoundOf, RunsOn, Shows, ShowsFull, Source, of_moments, of_window}
use Rattle.routine_judge.specs.Views.{JudgeView}
use Rattle.routine_judge.specs.declared.cause.Cause.{Cause}
use Rattle.routine_judge.specs.declared.cause.Cause.TheVariants.{Missing, Different, Full, Unmatched}
use Rattle.routine_judge.specs.declared.history.moments.Window.{Window}
use Rattle.routine_judge.specs.declared.history.moments.Window.TheVariants.{Itself, Either, Through}
use Rattle.routine_judge.specs.declared.right.RightAnswers.{RightAnswers}

-- a routine comes to one thing on an image
pub shows_once : (view : JudgeView) (m : ℕ) (cut : ℕ → ℕ) (found other : Result (List ℕ) run.Cause) → Shows view m cut found → Shows view m cut other → found ≡ other
shows_once view m cut found other a b =
    let one = ends_once (started view.routine (image view.start cut (at_moment view.events m)) 1) a.end b.end view.steps a.full b.full a.runs b.runs in
    a.comes ∙ sym (b.comes ∙ ap (λ (full : Bool). answer b.end full) one.1 ∙ ap (λ (end : Config). answer end a.full) one.0)

pub or_cases : (a b : Bool) → (a || b) ≡ true → (a ≡ true) ⊎ (b ≡ true)
or_cases true b e = inl refl
or_cases false b e = inr e

pub or_first : (a b : Bool) → a ≡ true → (a || b) ≡ true
or_first a b e = rw e refl

or_last : (a : Bool) → (a || true) ≡ true
or_last true = refl
or_last false = refl

nothing_in : (bytes : List ℕ) → ¬ Contains {X = List ℕ} [] bytes
nothing_in bytes c = absurd (omega (arith, c.1))

pub none_in : (xs : List (List ℕ)) (bytes : List ℕ) → xs ≡ [] → ¬ Contains xs bytes
none_in xs bytes e c = nothing_in bytes (subst (λ (ys : List (List ℕ)). Contains ys bytes) e c)

pub here_too : (among : ℕ → Bool) (moment : ℕ) → (among moment || (moment == moment)) ≡ true
here_too among moment = rw (eq-eqb moment moment refl) (or_last (among moment))

-- one moment more, where the routine runs on among the others or on its full image
runs_on_more : (view : JudgeView) (among : ℕ → Bool) (moment : ℕ) → RunsOn view (of_moments among) → RunsOn view (of_moments (λ i. among i || (i == moment)))
runs_on_more view among moment r = (r.0, or_first (among r.0) (r.0 == moment) r.1, r.2)

runs_on_cases : (view : JudgeView) (among : ℕ → Bool) (moment : ℕ) → RunsOn view (of_moments (λ i. among i || (i == moment))) →
    RunsOn view (of_moments among) ⊎ ShowsFull view moment (Err Running)
runs_on_cases view among moment r = elim (or_cases (among r.0) (r.0 == moment) r.1) [
  | inl before ↦ inl (r.0, before, r.2)
  | inr here ↦ inr (subst (λ (i : ℕ). ShowsFull view i (Err Running)) (eqb-true r.0 moment here) r.2)
]

-- with one moment more, on whose full image the routine has an answer
added_answer : (view : JudgeView) (among : ℕ → Bool) (moment : ℕ) (bytes : List ℕ) (old new : RightAnswers) → ShowsFull view moment (Ok bytes) →
    AreAnswers view (of_moments among) old → ((b : List ℕ) → Contains new.answers.items b ↔ (Contains old.answers.items b ⊎ (b ≡ bytes))) → new.runs_on ≡ old.runs_on →
    AreAnswers view (of_moments (λ i. among i || (i == moment))) new
added_answer view among moment bytes old new shown are adds keeps =
    let there : Contains new.answers.items bytes = (adds bytes).1 (inr refl) in
    record {
      each = λ b c. elim ((adds b).0 c) [
        | inl before ↦
            let r = are.each b before in
            (r.0, or_first (among r.0) (r.0 == moment) r.1, r.2)
        | inr same ↦ (moment, here_too among moment, subst (λ (x : List ℕ). ShowsFull view moment (Ok x)) (sym same) shown)
      ];
      all = λ b r. elim (or_cases (among r.0) (r.0 == moment) r.1) [
        | inl before ↦ (adds b).1 (inl (are.all b (r.0, before, r.2)))
        | inr here ↦
            let at : r.0 ≡ moment = eqb-true r.0 moment here in
            let found : ShowsFull view moment (Ok b) = subst (λ (i : ℕ). ShowsFull view i (Ok b)) at r.2 in
            let one : ◌≡◌ {A = Result (List ℕ) run.Cause} (Ok b) (Ok bytes) = shows_once view moment (full_cut view.events moment) (Ok b) (Ok bytes) found shown in
            let same : b ≡ bytes = cc in
            (adds b).1 (inr same)
      ];
      cause = λ e. absurd (none_in new.answers.items bytes e there);
      none = λ e. absurd (none_in new.answers.items bytes e there);
      on = λ t. runs_on_more view among moment (are.on (sym keeps ∙ t));
      ends = λ f r. elim (runs_on_cases view among moment r) [
        | inl before ↦ are.ends (sym keeps ∙ f) before
        | inr here ↦
            let one : ◌≡◌ {A = Result (List ℕ) run.Cause} (Err Running) (Ok bytes) = shows_once view moment (full_cut view.events moment) (Err Running) (Ok bytes) here shown in
            cc
      ];
    }

-- with one moment more, which is the last, on whose full image it has none
added_cause : (view : JudgeView) (among : ℕ → Bool) (moment : ℕ) (cause : run.Cause) (old new : RightAnswers) → ShowsFull view moment (Err cause) →
    ((i : ℕ) → among i ≡ true → i < moment) → AreAnswers view (of_moments among) old → new.answers.items ≡ old.answers.items → new.last_cause ≡ Some cause →
    (new.runs_on ≡ true → (old.runs_on ≡ true) ⊎ (cause ≡ Running)) → (new.runs_on ≡ false → (old.runs_on ≡ false) × (cause ≢ Running)) →
    AreAnswers view (of_moments (λ i. among i || (i == moment))) new
added_cause view among moment cause old new shown before are same last on ends = record {
  each = λ b c.
      let r = are.each b (subst (λ (xs : List (List ℕ)). Contains xs b) same c) in
      (r.0, or_first (among r.0) (r.0 == moment) r.1, r.2);
  all = λ b r. elim (or_cases (among r.0) (r.0 == moment) r.1) [
    | inl earlier ↦ subst (λ (xs : List (List ℕ)). Contains xs b) (sym same) (are.all b (r.0, earlier, r.2))
    | inr here ↦
        let at : r.0 ≡ moment = eqb-true r.0 moment here in
        let found : ShowsFull view moment (Ok b) = subst (λ (i : ℕ). ShowsFull view i (Ok b)) at r.2 in
        let one : ◌≡◌ {A = Result (List ℕ) run.Cause} (Ok b) (Err cause) = shows_once view moment (full_cut view.events moment) (Ok b) (Err cause) found shown in
        absurd (cc)
  ];
  cause = λ e.
      let told : HasLastCause view (λ i. among i || (i == moment)) cause = record {
        last = moment;
        here = here_too among moment;
        later = λ i t. elim (or_cases (among i) (i == moment) t) [
          | inl earlier ↦ let b = before i earlier in omega (arith, b)
          | inr at ↦ let s = eqb-true i moment at in omega (arith, s)
        ];
        missing = shown;
      } in
      subst (λ (o : Option run.Cause). IfSome o (HasLastCause view (λ i. among i || (i == moment)))) (sym last) told;
  none = λ e n. absurd (let both : ◌≡◌ {A = Option run.Cause} (Some cause) None = sym last ∙ n in cc);
  on = λ t. elim (on t) [
    | inl earlier ↦ runs_on_more view among moment (are.on earlier)
    | inr is ↦ (moment, here_too among moment, subst (λ (x : run.Cause). ShowsFull view moment (Err x)) is shown)
  ];
  ends = λ f r. elim (runs_on_cases view among moment r) [
    | inl earlier ↦ are.ends (ends f).0 earlier
    | inr here ↦
        let one : ◌≡◌ {A = Result (List ℕ) run.Cause} (Err cause) (Err Running) = shows_once view moment (full_cut view.events moment) (Err cause) (Err Running) shown here in
        (ends f).1 cc
  ];
}

-- an answer that was added
pub added_ok : (found : Result (List ℕ) run.Cause) (bytes given : List ℕ) (old new : RightAnswers) → found ≡ Ok bytes → given ≡ bytes →
    ((b : List ℕ) → Contains new.answers.items b ↔ (Contains old.answers.items b ⊎ (b ≡ given))) → new.last_cause ≡ old.last_cause →
    new.runs_on ≡ old.runs_on → IsAdded found old new
added_ok found bytes given old new is same adds cause on =
    let those : IsAdded (Ok bytes) old new =
    (λ b. subst (λ (x : List ℕ). Contains new.answers.items b ↔ (Contains old.answers.items b ⊎ (b ≡ x))) same (adds b), cause, on) in
    subst (λ (f : Result (List ℕ) run.Cause). IsAdded f old new) (sym is) those

-- with whatever it comes to on the full image of the last moment
pub added : (view : JudgeView) (among : ℕ → Bool) (moment : ℕ) (found : Result (List ℕ) run.Cause) (old new : RightAnswers) → IsAdded found old new →
    ShowsFull view moment found → ((i : ℕ) → among i ≡ true → i < moment) → AreAnswers view (of_moments among) old → AreAnswers view (of_moments (λ i. among i || (i == moment))) new
added view among moment (Ok bytes) old new a shown before are = added_answer view among moment bytes old new shown are a.0 a.2
added view among moment (Err cause) old new a shown before are =
    added_cause view among moment cause old new shown before are (ap (λ (answers : Vec (List ℕ) Global). answers.items) a.0) a.1 a.2 a.3

-- those on no image
pub answers_of_none : (view : JudgeView) (right : RightAnswers) → right.answers.items ≡ [] → right.last_cause ≡ None → right.runs_on ≡ false →
    AreAnswers view (of_moments (λ _. false)) right
answers_of_none view right none last on = record {
  each = λ b c. absurd (none_in right.answers.items b none c);
  all = λ b r. absurd (let f : false ≡ true = r.1 in cc);
  cause = λ e. subst (λ (o : Option run.Cause). IfSome o (HasLastCause view (λ _. false))) (sym last) tt;
  none = λ e n i t. absurd cc;
  on = λ t. absurd (let f : false ≡ true = sym on ∙ t in cc);
  ends = λ f r. absurd (let u : false ≡ true = r.1 in cc);
}

-- the same moments, told otherwise
pub same_answers : (view : JudgeView) (among other : ℕ → Bool) (right : RightAnswers) → ((i : ℕ) → among i ≡ other i) → AreAnswers view (of_moments among) right →
    AreAnswers view (of_moments other) right
same_answers view among other right same are = record {
  each = λ b c. let r = are.each b c in (r.0, sym (same r.0) ∙ r.1, r.2);
  all = λ b r. are.all b (r.0, same r.0 ∙ r.1, r.2);
  cause = λ e. caused right.last_cause (are.cause e);
  none = λ e n i t. are.none e n i (same i ∙ t);
  on = λ t. let r = are.on t in (r.0, sym (same r.0) ∙ r.1, r.2);
  ends = λ f r. are.ends f (r.0, same r.0 ∙ r.1, r.2);
} where
  caused : (o : Option run.Cause) → IfSome o (HasLastCause view among) → IfSome o (HasLastCause view other)
  caused None c = c
  caused (Some cause) c = record {
    last = c.last;
    here = sym (same c.last) ∙ c.here;
    later = λ i t. c.later i (same i ∙ t);
    missing = c.missing;
  }

-- those of a window that doesn't move with its moment are those of each of its moments
pub kept_answers : (view : JudgeView) (window : Window) (moment : ℕ) (right : RightAnswers) → ¬ (window ≡ Itself) → AreKept view window right →
    AreAnswers view (of_window window moment) right
kept_answers view Itself moment right n k = absurd (n refl)
kept_answers view (Either before after) moment right n k = k
kept_answers view (Through first last) moment right n k = k

pub answers_kept : (view : JudgeView) (window : Window) (moment : ℕ) (right : RightAnswers) → AreAnswers view (of_window window moment) right → AreKept view window right
answers_kept view Itself moment right a = tt
answers_kept view (Either before after) moment right a = a
answers_kept view (Through first last) moment right a = a

-- moments in a row, one more at a time
pub one_more : (first moment i : ℕ) → first ≤ moment → ((nat_le first i && nat_lt i moment) || (i == moment)) ≡ (nat_le first i && nat_lt i (moment + 1))
one_more first moment i f = grind (arith, nat_tests)

pub all_taken : (first last i : ℕ) → (nat_le first i && nat_lt i (last + 1)) ≡ (nat_le first i && nat_le i last)
all_taken first last i = grind (arith, nat_tests)

pub before_it : (first moment i : ℕ) → (nat_le first i && nat_lt i moment) ≡ true → i < moment
before_it first moment i t = grind (arith, nat_tests, t)

-- where a call answered well
pub on_ok : {X E : Type 0} {P Q : Type 0} (r : Result X E) → (P → Q) → OnOk r P → OnOk r Q
on_ok (Ok x) f h = f h
on_ok (Err e) f h = tt

no_moment : (moment i : ℕ) → false ≡ true → i < moment
no_moment moment i t = absurd cc

-- the answers of a window of one moment, of two, and of all in a row
pub answers_of_itself : (view : JudgeView) (window : Window) (moment : ℕ) (old new : RightAnswers) → window ≡ Itself → AreAnswers view (of_moments (λ _. false)) old →
    ((among : ℕ → Bool) → ((i : ℕ) → among i ≡ true → i < moment) → AreAnswers view (of_moments among) old → AreAnswers view (of_moments (λ i. among i || (i == moment))) new) →
    AreAnswers view (of_window window moment) new
answers_of_itself view window moment old new is none adds =
    subst (λ (w : Window). AreAnswers view (of_window w moment) new) (sym is) (adds (λ _. false) (no_moment moment) none)

pub answers_of_either : (view : JudgeView) (window : Window) (moment before after : ℕ) (old mid new : RightAnswers) → window ≡ Either before after → before < after →
    AreAnswers view (of_moments (λ _. false)) old →
    ((among : ℕ → Bool) → ((i : ℕ) → among i ≡ true → i < before) → AreAnswers view (of_moments among) old → AreAnswers view (of_moments (λ i. among i || (i == before))) mid) →
    ((among : ℕ → Bool) → ((i : ℕ) → among i ≡ true → i < after) → AreAnswers view (of_moments among) mid → AreAnswers view (of_moments (λ i. among i || (i == after))) new) →
    AreAnswers view (of_window window moment) new
answers_of_either view window moment before after old mid new is order none one other =
    let first : AreAnswers view (of_moments (λ i. i == before)) mid = one (λ _. false) (no_moment before) none in
    subst (λ (w : Window). AreAnswers view (of_window w moment) new) (sym is)
    (other (λ i. i == before) (λ i t. let e = eqb-true i before t in omega (arith, e, order)) first)

-- what is found of a cut is found of each that gives the lines the same numbers
shows_alike : (view : JudgeView) (m : ℕ) (k c : ℕ → ℕ) (found : Result (List ℕ) run.Cause) → ((l : ℕ) → k l ≡ c l) → Shows view m c found → Shows view m k found
shows_alike view m k c found same a =
    let e = image_same view.start k c (at_moment view.events m) same in record {
      end = a.end;
      full = a.full;
      runs = subst (λ (lines : List (List ℕ)). RunsFor (started view.routine lines 1) view.steps a.end a.full) (sym e) a.runs;
      comes = a.comes;
    }

pub found_alike : (view : JudgeView) (source : Source) (m : ℕ) (k c : ℕ → ℕ) (found : Option Cause) → ((l : ℕ) → k l ≡ c l) → IsFoundOf view source m c found →
    IsFoundOf view source m k found
found_alike view source m k c None same f = (f.0, shows_alike view m k c (Ok f.0) same f.1, f.2)
found_alike view source m k c (Some (Missing cause)) same f = shows_alike view m k c (Err cause) same f
found_alike view source m k c (Some Different) same f = (f.0, shows_alike view m k c (Ok f.0) same f.1, f.2, f.3)
found_alike view source m k c (Some (Full cause)) same f = (f.0, shows_alike view m k c (Ok f.0) same f.1, f.2, f.3)
found_alike view source m k c (Some Unmatched) same f = (f.0, shows_alike view m k c (Ok f.0) same f.1, f.2)
