-- A moment passes by the images of a later one, as long as no event between them is a fence or a mark.
use Rattle.std.proofs.Common.{◌≡◌, ◌∙◌, ℕ, zero, suc, ◌+◌, ◌-◌, ◌<◌, ◌≤◌, List, [], ◌∷◌, Option, Some, Ok, Err, length, map, inr, sym, ap, subst, arith}
use Rattle.std.specs.Prelude.{IfSome}
use Rattle.recovery.proofs.Boxed.{cut_is_left, left_some_cut}
use Rattle.recovery.proofs.Opened.{moment_grows}
use Rattle.recovery.specs.Boxes.{IsIn, left_of}
use Rattle.recovery.specs.declared.recovery_run.Cause.TheVariants.{Running}
use Rattle.routine_judge.proofs.ClosedBoxes.{alone_in, alone_only, left_of_only}
use Rattle.routine_judge.proofs.Lasting.{right_window_next}
use Rattle.routine_judge.proofs.Sourcing.{basis_next, basis_source, shows_before, shows_next}
use Rattle.routine_judge.proofs.Staying.{window_stays}
use Rattle.routine_judge.specs.CutVerdicts.{IsJudgedWith}
use Rattle.routine_judge.specs.CutsInRecovery.{AllAnswered}
use Rattle.routine_judge.specs.RightAnswers.{RunsOn}
use Rattle.routine_judge.specs.Standing.{IsBasis, source_at}
use Rattle.routine_judge.specs.Views.{JudgeView}
use Rattle.routine_judge.specs.WidePasses.{AreQuiet, IsAhead, IsPassedBy}
use Rattle.routine_judge.specs.declared.cuts.wide.WidePass.{WidePass}
use Rattle.routine_judge.specs.declared.history.moments.Window.{Window}
use Rattle.store_trace.proofs.Lines.{cut_image, within_from_cut}
use Rattle.store_trace.specs.Cut.{IsCutImage, number_in}
use Rattle.store_trace.specs.History.{at_moment}
use Rattle.store_trace.specs.Image.{image}
use Rattle.store_trace.specs.declared.event.Event.{Event}
use Rattle.store_trace.specs.declared.event.Event.TheVariants.{Fence}
use Rattle.store_trace.specs.declared.crash_model.step.PersistenceStep.{PersistenceStep}
use Rattle.verdict.specs.declared.moment_verdict.verdict.MomentVerdict.TheVariants as moments

-- the images of a moment, as a box
boxed : (start : List (List ℕ)) (p : List PersistenceStep) (medium : List (List ℕ)) → IsCutImage start p medium → IsIn (left_of p (map (λ line. line ∷ []) start)) medium
boxed start p medium c =
    subst (λ (lines : List (List ℕ)). IsIn (left_of p (map (λ line. line ∷ []) start)) lines) (sym c.bytes)
    (cut_is_left p (map (λ line. line ∷ []) start) start (number_in c.cut) (within_from_cut p c.cut c.bounds) (alone_in start))

unboxed : (start : List (List ℕ)) (p : List PersistenceStep) (medium : List (List ℕ)) → IsIn (left_of p (map (λ line. line ∷ []) start)) medium → IsCutImage start p medium
unboxed start p medium h =
    let (lines, cut, inside, within, leaves) = left_some_cut p (map (λ line. line ∷ []) start) medium h in
    subst (λ (left : List (List ℕ)). IsCutImage start p left) (sym (leaves ∙ ap (λ (ls : List (List ℕ)). image ls cut p) (alone_only start lines inside)))
    (cut_image start p cut within)

-- what is left at moment m is left at the later one
image_grows : (start : List (List ℕ)) (events : List Event) (k m wide : ℕ) (medium : List (List ℕ)) → m + k ≡ wide → wide ≤ length events → AreQuiet events m wide
    → IsCutImage start (at_moment events m) medium → IsCutImage start (at_moment events wide) medium
image_grows start events zero m wide medium e there quiet at =
    let same : m ≡ wide = omega (arith, e) in subst (λ (n : ℕ). IsCutImage start (at_moment events n) medium) same at
image_grows start events (suc k) m wide medium e there quiet at =
    let early : m < wide = omega (arith, e) in
    let next = unboxed start (at_moment events (m + 1)) medium
    (moment_grows events m (Fence 0) (map (λ line. line ∷ []) start) medium (omega (arith, early, there)) (quiet m (Fence 0) (omega arith) early).no_fence
    (boxed start (at_moment events m) medium at)) in
    image_grows start events k (m + 1) wide medium (omega (arith, e)) there (λ i d from below. quiet i d (omega (arith, from)) below) next

-- so the moment passes
pub wide_judged : (most : Option ℕ) (view : JudgeView) (window : Window) (pass : WidePass) (m : ℕ) → pass.moment ≡ m → IsPassedBy most view window pass
    → IsJudgedWith most view m moments.Pass
wide_judged most view window pass m here w = subst (λ (n : ℕ). IsJudgedWith most view n moments.Pass) here (record {
  source = source_at view window pass.moment;
  is_source = basis_source view.right view window pass.moment w.is_basis;
  judged = inr (
    w.ends,
    λ cuts medium shown allowed left. w.answers cuts medium shown allowed
        (left_of_only view.routine view.steps (λ (first : List (List ℕ)). IsCutImage view.start (at_moment view.events pass.moment) first)
        (λ (first : List (List ℕ)). IsCutImage view.start (at_moment view.events pass.wide) first) cuts medium shown
        (λ first at. image_grows view.start view.events (pass.wide - pass.moment) pass.moment pass.wide first (let order = w.ahead.order in omega arith) w.ahead.there
        w.ahead.quiet at) left),
  );
})

-- and the next one
ahead_next : (view : JudgeView) (window : Window) (m wide : ℕ) → m < wide → IsAhead view window m wide → IsAhead view window (m + 1) wide
ahead_next view window m wide early a = record {
  order = omega (arith, early);
  there = a.there;
  stays = λ later. a.stays early;
  quiet = λ i e from below. a.quiet i e (omega (arith, from)) below;
}

pub wide_next : (most : Option ℕ) (view : JudgeView) (window : Window) (old new : WidePass) → new.moment ≡ old.moment + 1 → new.wide ≡ old.wide → old.moment < old.wide
    → IsPassedBy most view window old → IsPassedBy most view window new
wide_next most view window old new here same early w =
    let m = old.moment in
    let d : Event = Fence 0 in
    let there : m < length view.events = (let last = w.ahead.there in omega (arith, early, last)) in
    let quiet = w.ahead.quiet m d (omega arith) early in
    let stays = w.ahead.stays early in
    let basis : IsBasis view window (m + 1) = basis_next view.right view window m (m + 1)
    (right_window_next view m d (record { there = there; none_begins = quiet.none_begins; none_ends = quiet.none_ends }) window
    (λ other. window_stays view.events m d other there quiet.none_begins quiet.none_ends)) w.is_basis in
    let answers : AllAnswered view (source_at view window (m + 1)) most old.wide = λ cuts medium shown allowed left.
    let well = w.answers cuts medium shown allowed left in record {
      bytes = well.bytes;
      answers = well.answers;
      is_right = shows_next view.right view window m d there quiet.none_begins quiet.none_ends stays (Ok well.bytes) well.is_right;
      stays = well.stays;
    } in
    record {
      ahead = subst (λ (n : ℕ). IsAhead view window n new.wide) (sym here)
          (subst (λ (k : ℕ). IsAhead view window (m + 1) k) (sym same) (ahead_next view window m old.wide early w.ahead));
      is_basis = subst (λ (n : ℕ). IsBasis view window n) (sym here) basis;
      ends = subst (λ (n : ℕ). ¬ RunsOn view (source_at view window n)) (sym here)
          (λ on. w.ends (shows_before view.right view window m d there quiet.none_begins quiet.none_ends stays (Err Running) on));
      answers = subst (λ (n : ℕ). AllAnswered view (source_at view window n) most new.wide) (sym here)
          (subst (λ (k : ℕ). AllAnswered view (source_at view window (m + 1)) most k) (sym same) answers);
    }

pub still_passed : (most : Option ℕ) (view : JudgeView) (window : Window) (passed : Option WidePass) (old new : WidePass) → passed ≡ Some old → new.moment ≡ old.moment + 1
    → new.wide ≡ old.wide → old.moment < old.wide → IfSome passed (IsPassedBy most view window) → IsPassedBy most view window new
still_passed most view window passed old new is here same early w =
    wide_next most view window old new here same early (subst (λ (p : Option WidePass). IfSome p (IsPassedBy most view window)) is w)
