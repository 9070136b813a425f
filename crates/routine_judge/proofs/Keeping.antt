-- A pass is kept from a moment to the next by an event that is no mark and that no image shows.
use Rattle.std.proofs.Common.{◌≡◌, ℕ, ◌+◌, ◌<◌, Bool, List, [], ◌∷◌, length, get_or, slice_get, inl, inr, refl, sym, ap, ◌∙◌, subst, arith, Result, Ok, Err, None, true}
use Rattle.std.proofs.lemmas.Bool.{cases_lt}
use Rattle.std.proofs.lemmas.List.{get_or_past}
use Rattle.store_trace.proofs.Images.{image_line, length_image}
use Rattle.routine_judge.proofs.Gathering.{found_alike}
use Rattle.routine_judge.proofs.Sourcing.{shows_before, shows_next}
use Rattle.store_trace.specs.Marks.{begun_by, ended_by}
use Rattle.recovery.specs.declared.recovery_run.Cause.TheVariants.{Running}
use Rattle.verdict.specs.CutImages.{AreMedia, image_at}
use Rattle.routine_judge.specs.RightAnswers.{AsksOf, IsFoundOf, Shows, same_bytes}
use Rattle.routine_judge.specs.Standing.{IsBasis, IsPassed, StaysBy, source_at}
use Rattle.routine_judge.specs.Views.{JudgeView}
use Rattle.routine_judge.specs.declared.history.moments.Window.{Window}
use Rattle.machine.specs.Run.{Config, started}
use Rattle.verdict.proofs.Keeping.{AgreeIn, IsByLines, IsUnchanged, like_next, pass_kept}
use Rattle.verdict.specs.Keeping.{IsUnseen}
use Rattle.recovery.proofs.Limited.{ends_once, runs_alike}
use Rattle.recovery.specs.Answers.{answer}
use Rattle.recovery.specs.Images.{content, same_at}
use Rattle.recovery.specs.Asking.{AgreeOn, asked}
use Rattle.verdict.specs.declared.branches.question.Question.{Question}
use Rattle.recovery.specs.declared.recovery_run.Cause as run
use Rattle.line_memory.specs.Lines.{line_at}
use Rattle.store_trace.specs.History.{at_moment}
use Rattle.store_trace.specs.declared.event.Event.{Event}

-- a routine that comes to something asks some bytes
asks_of : (view : JudgeView) (m : ℕ) (cut : ℕ → ℕ) (found : Result (List ℕ) run.Cause) → Shows view m cut found → (questions : List Question) × AsksOf view m cut questions
asks_of view m cut found s = (asked s.end.common.history, record { end = s.end; full = s.full; runs = s.runs; asks = refl })

asks_once : (view : JudgeView) (m : ℕ) (cut : ℕ → ℕ) (questions others : List Question) → AsksOf view m cut questions → AsksOf view m cut others → questions ≡ others
asks_once view m cut questions others x y =
    let one = ends_once (started view.routine (image_at view.start view.events m cut) 1) x.end y.end view.steps x.full y.full x.runs y.runs in
    x.asks ∙ ap (λ (end : Config). asked end.common.history) (sym one.0) ∙ sym y.asks

same_size : (view : JudgeView) (m n : ℕ) (c k : ℕ → ℕ) → length (image_at view.start view.events n k) ≡ length (image_at view.start view.events m c)
same_size view m n c k = length_image view.start k (at_moment view.events n) ∙ sym (length_image view.start c (at_moment view.events m))

-- lines that are the same have the same bytes
agrees_on : (lines others : List (List ℕ)) (questions : List Question) → AgreeIn lines others questions → AgreeOn lines others questions
agrees_on lines others [] h = tt
agrees_on lines others (q ∷ qs) h = (λ i has. ap (λ (line : List ℕ). slice_get line i) h.0, agrees_on lines others qs h.1)

-- on an image of another moment that has the lines of which it asks bytes of this one, it asks the same
asks_later : (view : JudgeView) (m n : ℕ) → AreMedia view.start view.events m → AreMedia view.start view.events n → (c k : ℕ → ℕ) (questions : List Question) →
    AsksOf view m c questions → AgreeIn (image_at view.start view.events m c) (image_at view.start view.events n k) questions → AsksOf view n k questions
asks_later view m n whole next c k questions x agree =
    let one = image_at view.start view.events m c in
    let other = image_at view.start view.events n k in
    let r = runs_alike view.routine one other view.steps x.end x.full (whole c).each (next k).each (same_size view m n c k) x.runs
    (subst (λ (qs : List Question). AgreeOn one other qs) x.asks (agrees_on one other questions agree)) in
    record { end = r.0; full = x.full; runs = r.1; asks = x.asks ∙ ap asked (sym r.2.history) }

-- and comes to the same
shows_later : (view : JudgeView) (m n : ℕ) → AreMedia view.start view.events m → AreMedia view.start view.events n → (c k : ℕ → ℕ) (questions : List Question)
    (found : Result (List ℕ) run.Cause) → AsksOf view m c questions → AgreeIn (image_at view.start view.events m c) (image_at view.start view.events n k) questions →
    Shows view m c found → Shows view n k found
shows_later view m n whole next c k questions found x agree a =
    let one = image_at view.start view.events m c in
    let other = image_at view.start view.events n k in
    let r = runs_alike view.routine one other view.steps x.end x.full (whole c).each (next k).each (same_size view m n c k) x.runs
    (subst (λ (qs : List Question). AgreeOn one other qs) x.asks (agrees_on one other questions agree)) in
    let same = ends_once (started view.routine one 1) a.end x.end view.steps a.full x.full a.runs x.runs in
    record {
      end = r.0;
      full = x.full;
      runs = r.1;
      comes = a.comes ∙ sym (r.3 ∙ ap (λ (full : Bool). answer x.end full) same.1 ∙ ap (λ (end : Config). answer end a.full) same.0);
    }

by_lines : (view : JudgeView) (window : Window) (m : ℕ) (d : Event) → AreMedia view.start view.events m → AreMedia view.start view.events (m + 1) →
    m < length view.events → begun_by (get_or view.events m d) ≡ None → ended_by (get_or view.events m d) ≡ None → StaysBy view.right window →
    IsByLines view.start (at_moment view.events m) (at_moment view.events (m + 1)) (AsksOf view m) (AsksOf view (m + 1))
    (IsFoundOf view (source_at view window m) m) (IsFoundOf view (source_at view window (m + 1)) (m + 1))
by_lines view window m d whole next there begins ends stays = record {
  asked = λ c good. asks_of view m c (Ok good.0) good.1;
  same = λ c k questions asks agree. asks_later view m (m + 1) whole next c k questions asks agree;
  once = λ k questions others a b. asks_once view (m + 1) k questions others a b;
  good = λ c k questions asks agree good. (
    good.0,
    shows_later view m (m + 1) whole next c k questions (Ok good.0) asks agree good.1,
    shows_next view.right view window m d there begins ends stays (Ok good.0) good.2,
  );
  alike = λ k c found same f. found_alike view (source_at view window m) m k c found same f;
}

-- the bytes of a line in the images of a moment
abbrev bytes_of : JudgeView → ℕ → ℕ → ℕ → List ℕ
bytes_of view m l n = content (λ cut. image_at view.start view.events m cut) l n

bytes_unchanged : (view : JudgeView) (m later l n : ℕ) → IsUnchanged (at_moment view.events m) (at_moment view.events later) l n →
    bytes_of view later l n ≡ bytes_of view m l n
bytes_unchanged view m later l n same = elim (cases_lt l (length view.start)) [
  | inl low ↦
      image_line view.start (λ x. n) (at_moment view.events later) l [] [] low ∙ same (line_at view.start l)
      ∙ sym (image_line view.start (λ x. n) (at_moment view.events m) l [] [] low)
  | inr high ↦
      let a = length_image view.start (λ x. n) (at_moment view.events later) in
      let b = length_image view.start (λ x. n) (at_moment view.events m) in
      rw (get_or_past (image_at view.start view.events later (λ x. n)) l [] (omega (arith, high)), get_or_past (image_at view.start view.events m (λ x. n)) l [] (omega (arith, high))) refl
]

pub kept_next : (view : JudgeView) (m : ℕ) (d : Event) (flags : List Bool) (window : Window) → AreMedia view.start view.events m →
    AreMedia view.start view.events (m + 1) → m < length view.events → StaysBy view.right window → IsUnseen flags (get_or view.events m d) →
    begun_by (get_or view.events m d) ≡ None → ended_by (get_or view.events m d) ≡ None → IsBasis view window (m + 1) → IsPassed view flags window m →
    IsPassed view flags window (m + 1)
kept_next view m d flags window whole next there stays unseen begins ends is passed =
    let kept = pass_kept true view.start (at_moment view.events m) (at_moment view.events (m + 1)) flags (same_bytes view m) (same_bytes view (m + 1))
    (AsksOf view m) (AsksOf view (m + 1))
    (IsFoundOf view (source_at view window m) m) (IsFoundOf view (source_at view window (m + 1)) (m + 1))
    (λ q n o x y e. ap (λ (xs : List ℕ). same_at q.bytes 0 xs (bytes_of view (m + 1) q.line o)) (bytes_unchanged view m (m + 1) q.line n x)
    ∙ ap (λ (ys : List ℕ). same_at q.bytes 0 (bytes_of view m q.line n) ys) (bytes_unchanged view m (m + 1) q.line o y) ∙ e) (like_next view.start view.events m d flags there unseen)
    (by_lines view window m d whole next there begins ends stays) passed.flagged passed.passes in
    record {
      there = omega arith;
      is_basis = is;
      flagged = kept.0;
      ends = λ r. passed.ends (shows_before view.right view window m d there begins ends stays (Err Running) r);
      passes = kept.1;
    }
