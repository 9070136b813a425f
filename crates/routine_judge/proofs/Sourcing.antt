-- Where the right answers of a moment come from, and of the moment behind an event that is no mark.
use Rattle.std.proofs.Common.{◌≡◌, ◌∙◌, ℕ, ◌+◌, ◌<◌, inl, inr, List, [], ◌∷◌, ◌++◌, length, get_or, take, refl, ap, subst, sym, None, Result}
use Rattle.std.proofs.lemmas.List.{take_more}
use Rattle.std.proofs.lemmas.List.Elements.{Contains-append_left, Contains-push_cases}
use Rattle.machine.specs.Replies.{trace_in}
use Rattle.program.specs.Sections.{Sections}
use Rattle.recovery.specs.declared.recovery_run.Cause as run
use Rattle.store_trace.specs.Marks.{begun_by, ended_by}
use Rattle.routine_judge.proofs.Marked.{no_number}
use Rattle.routine_judge.proofs.Splitting.{before_cases, from_more, in_more, kept_before}
use Rattle.routine_judge.specs.Fitting.{Fits}
use Rattle.routine_judge.specs.Gathered.{AreAnswers, AreKept, AreRightAfter}
use Rattle.routine_judge.specs.RightAnswers.{IsRightWindow, IsSourceBy, SourceShows, of_window, program_of}
use Rattle.routine_judge.specs.Standing.{AreKeptBy, AreKeptFor, IsBasis, IsBasisBy, IsOrderOf, StaysBy, source_at, source_by}
use Rattle.routine_judge.specs.declared.answers.MomentAnswers.{MomentAnswers}
use Rattle.routine_judge.specs.Views.{JudgeView, RightBy, own_moments, sequential_runs}
use Rattle.routine_judge.specs.SpanAnswers.{IsSpan}
use Rattle.routine_judge.specs.declared.history.moments.Window.{Window}
use Rattle.routine_judge.specs.declared.history.moments.Window.TheVariants.{Itself, Either, Through}
use Rattle.store_trace.specs.declared.event.Event.{Event}
use Rattle.store_trace.specs.declared.event.Event.TheVariants.{Begin}

abbrev Found : Type 0
Found = Result (List ℕ) run.Cause

-- an event that is no mark changes nothing of what fits
module _ (w p : List Event) (event : Event) (begins : begun_by event ≡ None) (ends : ended_by event ≡ None) where
  pub fits_next : Fits w p → Fits w (p ++ event ∷ [])
  fits_next f = record {
    begins = λ hart op c. Contains-append_left p (event ∷ []) (Begin hart op) (f.begins hart op c);
    ends = λ op c. f.ends op (elim (from_more ended_by p event op c) [ inl d ↦ d | inr e ↦ absurd (no_number op (sym ends ∙ e)) ]);
    orders = λ x y before c. elim (before_cases p event x y before) [
      | inl d ↦ f.orders x y d c
      | inr b ↦ absurd (no_number y (sym begins ∙ ap (λ (e : Event). begun_by e) b.1))
    ];
  }

  pub fits_before : Fits w (p ++ event ∷ []) → Fits w p
  fits_before f = record {
    begins = λ hart op c. elim (Contains-push_cases p event (Begin hart op) (f.begins hart op c)) [
      | inl d ↦ d
      | inr e ↦ absurd (no_number op (sym begins ∙ ap (λ (x : Event). begun_by x) e))
    ];
    ends = λ op c. f.ends op (in_more ended_by p event op c);
    orders = λ x y before c. f.orders x y (kept_before p event x y before) c;
  }

-- so the right answers behind it come from the same
pub shows_next : (right : RightBy) (view : JudgeView) (window : Window) (m : ℕ) (d : Event) → m < length view.events → begun_by (get_or view.events m d) ≡ None →
    ended_by (get_or view.events m d) ≡ None → StaysBy right window → (found : Found) → SourceShows view (source_by right view window m) found →
    SourceShows view (source_by right view window (m + 1)) found
shows_next own_moments view Itself m d there begins ends stays found s = absurd (stays refl)
shows_next own_moments view (Either before after) m d there begins ends stays found s = s
shows_next own_moments view (Through first last) m d there begins ends stays found s = s
shows_next (sequential_runs program harts) view window m d there begins ends stays found s = record {
  end = s.end;
  is_run = s.is_run;
  fits = subst (λ (p : List Event). Fits (trace_in s.end.common) p) (sym (take_more view.events m d there))
      (fits_next (trace_in s.end.common) (take m view.events) (get_or view.events m d) begins ends s.fits);
  shows = s.shows;
}

pub shows_before : (right : RightBy) (view : JudgeView) (window : Window) (m : ℕ) (d : Event) → m < length view.events → begun_by (get_or view.events m d) ≡ None →
    ended_by (get_or view.events m d) ≡ None → StaysBy right window → (found : Found) → SourceShows view (source_by right view window (m + 1)) found →
    SourceShows view (source_by right view window m) found
shows_before own_moments view Itself m d there begins ends stays found s = absurd (stays refl)
shows_before own_moments view (Either before after) m d there begins ends stays found s = s
shows_before own_moments view (Through first last) m d there begins ends stays found s = s
shows_before (sequential_runs program harts) view window m d there begins ends stays found s = record {
  end = s.end;
  is_run = s.is_run;
  fits = fits_before (trace_in s.end.common) (take m view.events) (get_or view.events m d) begins ends
      (subst (λ (p : List Event). Fits (trace_in s.end.common) p) (take_more view.events m d there) s.fits);
  shows = s.shows;
}

-- what a window is of gives the right answers
pub basis_source : (right : RightBy) (view : JudgeView) (window : Window) (m : ℕ) → IsBasisBy right view window m →
    IsSourceBy right view m (source_by right view window m)
basis_source own_moments view window m is = (window, is, refl)
basis_source (sequential_runs program harts) view window m is = refl

pub basis_next : (right : RightBy) (view : JudgeView) (window : Window) (m n : ℕ) → (IsRightWindow view m window → IsRightWindow view n window) →
    IsBasisBy right view window m → IsBasisBy right view window n
basis_next own_moments view window m n next is = next is
basis_next (sequential_runs program harts) view window m n next is = tt

-- what is kept of no moment
pub none_kept : (right : RightBy) (view : JudgeView) (answers : MomentAnswers) → answers.window ≡ Itself → IsOrderOf view.events answers.order →
    IsSpan view answers.span → AreKeptBy right view answers
none_kept own_moments view answers none order span = (subst (λ (w : Window). AreKept view w answers.right) (sym none) tt, span)
none_kept (sequential_runs program harts) view answers none order span = order

-- where the run's own moments give the right answers
module _ (view : JudgeView) (answers : MomentAnswers) (own : view.right ≡ own_moments) where
  pub own_answers : (window : Window) (m : ℕ) → answers.window ≡ window → AreAnswers view (of_window window m) answers.right →
      AreAnswers view (source_at view answers.window m) answers.right
  own_answers window m same are =
      subst (λ (r : RightBy). AreAnswers view (source_by r view answers.window m) answers.right) (sym own)
      (subst (λ (w : Window). AreAnswers view (of_window w m) answers.right) (sym same) are)

  pub own_basis : (window : Window) (m : ℕ) → answers.window ≡ window → IsRightWindow view m window → IsBasis view answers.window m
  own_basis window m same is =
      subst (λ (r : RightBy). IsBasisBy r view answers.window m) (sym own) (subst (λ (w : Window). IsRightWindow view m w) (sym same) is)

  pub own_kept : AreKept view answers.window answers.right → IsSpan view answers.span → AreKeptFor view answers
  own_kept kept span = subst (λ (r : RightBy). AreKeptBy r view answers) (sym own) (kept, span)

  pub kept_own : AreKeptFor view answers → AreKept view answers.window answers.right × IsSpan view answers.span
  kept_own kept = subst (λ (r : RightBy). AreKeptBy r view answers) own kept

-- where sequential runs do
module _ (view : JudgeView) (answers : MomentAnswers) (program : Sections) (harts : ℕ) (by_runs : view.right ≡ sequential_runs program harts) where
  pub fitting_answers : (m : ℕ) → AreRightAfter (program_of view program harts) (take m view.events) answers.right →
      AreAnswers view (source_at view answers.window m) answers.right
  fitting_answers m are = subst (λ (r : RightBy). AreAnswers view (source_by r view answers.window m) answers.right) (sym by_runs) are

  pub fitting_basis : (m : ℕ) → IsBasis view answers.window m
  fitting_basis m = subst (λ (r : RightBy). IsBasisBy r view answers.window m) (sym by_runs) tt

  pub order_is_kept : IsOrderOf view.events answers.order → AreKeptFor view answers
  order_is_kept kept = subst (λ (r : RightBy). AreKeptBy r view answers) (sym by_runs) kept

  pub kept_order : AreKeptFor view answers → IsOrderOf view.events answers.order
  kept_order kept = subst (λ (r : RightBy). AreKeptBy r view answers) by_runs kept
