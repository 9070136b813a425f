-- What a span of moments shows, one moment more.
use Rattle.std.proofs.Common.{◌≡◌, ◌&&◌, ◌||◌, ◌==◌, ℕ, ◌+◌, ◌-◌, ◌<◌, ◌≤◌, Bool, true, false, inl, inr, List, [], ◌∷◌, ◌++◌, length, length-append, get_or, nat_lt, refl, sym, subst, arith, Result}
use Rattle.std.specs.Prelude.{◌↔◌, IsTrue, nat_le, not}
use Rattle.routine_judge.proofs.Marked.{not_true, true_of}
use Rattle.std.proofs.lemmas.Bool.{cases_lt}
use Rattle.std.proofs.lemmas.List.{get_or_append_left, get_or_at}
use Rattle.routine_judge.proofs.Gathering.{added, before_it, one_more, same_answers}
use Rattle.routine_judge.specs.Gathered.{AreAnswers, IsAdded}
use Rattle.routine_judge.specs.RightAnswers.{ShowsFull, of_moments}
use Rattle.routine_judge.specs.SpanAnswers.{AreFullAnswers, AreLasting, LastsFrom, TellsChange}
use Rattle.routine_judge.specs.Views.{JudgeView}
use Rattle.routine_judge.specs.declared.right.RightAnswers.{RightAnswers}
use Rattle.recovery.specs.declared.recovery_run.Cause as run

abbrev Found : Type 0
Found = Result (List ℕ) run.Cause

pub lasts_more : (view : JudgeView) (first i : ℕ) (lasts : List ℕ) (n : ℕ) → AreLasting view first lasts → first + length lasts ≡ i → LastsFrom view i n →
    AreLasting view first (lasts ++ n ∷ [])
lasts_more view first i lasts n are count tells = λ k inside. elim (cases_lt k (length lasts)) [
  | inl earlier ↦ subst (λ (x : ℕ). LastsFrom view (first + k) x) (sym (get_or_append_left lasts (n ∷ []) 0 k earlier)) (are k earlier)
  | inr late ↦
      let size = length-append lasts (n ∷ []) in
      let same : length lasts ≡ k = omega (arith, late, inside, size) in
      let place : i ≡ first + k = omega (arith, same, count) in
      subst (λ (x : ℕ). LastsFrom view (first + k) x) (sym (get_or_at lasts n [] 0 k same)) (subst (λ (j : ℕ). LastsFrom view j n) place tells)
]

-- the right answers of some moments in a row, one more
pub answers_more : (view : JudgeView) (from moment : ℕ) (found : Found) (old new : RightAnswers) → from ≤ moment → IsAdded found old new → ShowsFull view moment found →
    AreAnswers view (of_moments (λ i. nat_le from i && nat_lt i moment)) old → AreAnswers view (of_moments (λ i. nat_le from i && nat_lt i (moment + 1))) new
answers_more view from moment found old new order add shown are =
    same_answers view (λ i. (nat_le from i && nat_lt i moment) || (i == moment)) (λ i. nat_le from i && nat_lt i (moment + 1)) new (λ i. one_more from moment i order)
    (added view (λ i. nat_le from i && nat_lt i moment) moment found old new add shown (before_it from moment) are)

-- what the routine comes to on the full image of one of the moments
pub found_here : (view : JudgeView) (first m : ℕ) (founds : List Found) (found : Found) → AreFullAnswers view first founds → first ≤ m → m < first + length founds →
    found ≡ get_or founds (m - first) found → ShowsFull view m found
found_here view first m founds found are order within is =
    let place : first + (m - first) ≡ m = omega (arith, order) in
    subst (λ (x : Found). ShowsFull view m x) (sym is)
    (subst (λ (n : ℕ). ShowsFull view n (get_or founds (m - first) found)) place (are (m - first) found (omega (arith, order, within))))

-- whether what it comes to changes from one of them to the next
pub tells_change : (view : JudgeView) (first at : ℕ) (founds : List Found) (one other : Found) (same : Bool) → AreFullAnswers view first founds → 1 ≤ at →
    at < length founds → one ≡ get_or founds (at - 1) one → other ≡ get_or founds at other → IsTrue same ↔ (one ≡ other) → TellsChange view (first + at - 1) (not same)
tells_change view first at founds one other same are behind within is too says =
    let shown : ShowsFull view (first + (at - 1)) one = subst (λ (x : Found). ShowsFull view (first + (at - 1)) x) (sym is) (are (at - 1) one (omega (arith, within))) in
    let next : ShowsFull view (first + at) other = subst (λ (x : Found). ShowsFull view (first + at) x) (sym too) (are at other within) in
    let place : first + (at - 1) ≡ first + at - 1 = omega (arith, behind) in
    let behind_it : first + at ≡ (first + at - 1) + 1 = omega (arith, behind) in
    record {
      before = one;
      after = other;
      shows_before = subst (λ (n : ℕ). ShowsFull view n one) place shown;
      shows_after = subst (λ (n : ℕ). ShowsFull view n other) behind_it next;
      differ = λ t e. not_same same t (says.1 e);
      same = λ f. says.0 (is_same same f);
    } where
      not_same : (b : Bool) → not b ≡ true → ¬ IsTrue b
      not_same true t is = absurd (let e : false ≡ true = t in cc)
      not_same false t is = not_true false refl is

      is_same : (b : Bool) → not b ≡ false → IsTrue b
      is_same true f = true_of true refl
      is_same false f = absurd (let e : true ≡ false = f in cc)
