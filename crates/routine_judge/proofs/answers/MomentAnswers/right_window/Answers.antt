-- The window of a moment, without the moments before a change that has to last.
use Rattle.std.proofs.Common.{◌≡◌, ◌∙◌, ℕ, ◌+◌, ◌≤◌, List, length, vec_len, ap, refl, subst, sym, arith}
use Rattle.routine_judge.proofs.Lasting.{first_behind}
use Rattle.routine_judge.proofs.Marked.{true_of}
use Rattle.routine_judge.specs.RightAnswers.{IsFirstBehind, IsRightWindow}
use Rattle.routine_judge.specs.SpanAnswers.{Covers, IsSpan}
use Rattle.routine_judge.specs.Views.{JudgeView}
use Rattle.routine_judge.specs.Windows.{IsWindow}
use Rattle.routine_judge.specs.declared.answers.MomentAnswers.{MomentAnswers}
use Rattle.routine_judge.specs.declared.history.moments.Window.{Window}
use Rattle.routine_judge.specs.declared.history.moments.Window.TheVariants.{Itself, Either, Through}
use Rattle.routine_judge.specs.declared.span.SpanAnswers.{SpanAnswers}
use Rattle.store_trace.specs.declared.event.Event.{Event}
use Rattle.routine_judge.proofs.answers.MomentAnswers.right_window.Goals as goal
use Rattle.routine_judge.proofs.answers.MomentAnswers.right_window.Goals.{then-not-is_of+in_ok-self, else-not-is_of}

-- a window of one moment or of two
right_as_it_is : (view : JudgeView) (m : ℕ) (window : Window) → IsWindow view.events m window → ((first last : ℕ) → ¬ (window ≡ Through first last)) →
    IsRightWindow view m window
right_as_it_is view m Itself is not_through = is
right_as_it_is view m (Either before after) is not_through = is
right_as_it_is view m (Through first last) is not_through = absurd (not_through first last refl)

covers_it : (span : SpanAnswers) (window : Window) → ((first last : ℕ) → ¬ (window ≡ Through first last)) → Covers span window
covers_it span Itself not_through = tt
covers_it span (Either before after) not_through = tt
covers_it span (Through first last) not_through = absurd (not_through first last refl)

-- what is held of the moments from `first` to `last`
abbrev Held : JudgeView → SpanAnswers → ℕ → ℕ → Type 0
Held view span first last = IsSpan view span × (span.first ≡ first) × (first + length span.founds.items ≡ last + 1)

-- so many moments, as a vector tells it
sized : (first last : ℕ) (span : SpanAnswers) → first + vec_len span.founds ≡ last + 1 → first + length span.founds.items ≡ last + 1
sized first last span e = omega (arith, e, span.founds.ok)

pub returns-in_default-clause-right : goal.returns-in_default-clause-right
returns-in_default-clause-right c =
    let view = c.args.run.now in
    let same : c.events.result.now ≡ view.events = c.events.ensures.value ∙ ap (λ (v : JudgeView). v.events) c.run.view_is in
    right_as_it_is view c.args.moment c.at-window.result (subst (λ (es : List Event). IsWindow es c.args.moment c.at-window.result) same c.at-window.ensures)
    c.in_default.not-Through

pub returns-in_default-clause-covers : goal.returns-in_default-clause-covers
returns-in_default-clause-covers c = covers_it c.args.self.now.span c.at-window.result c.in_default.not-Through

pub of-requires-clause-there : goal.of-requires-clause-there
of-requires-clause-there c =
    let view = c.args.run.now in
    let same : c.events.result.now ≡ view.events = c.events.ensures.value ∙ ap (λ (v : JudgeView). v.events) c.run.view_is in
    let is : IsWindow view.events c.args.moment (Through c.in-Through.first c.in-Through.last) =
    subst (λ (es : List Event). IsWindow es c.args.moment (Through c.in-Through.first c.in-Through.last)) same c.in-Through.ensures in
    let lies = c.windows_lie_in_the_run.ensures.through view.events c.args.moment c.in-Through.first c.in-Through.last c.requires.there is in
    omega (arith, lies)

pub returns-clause-right : goal.returns-clause-right
returns-clause-right c =
    let view = c.args.run.now in
    let m = c.args.moment in
    let first = c.in-Through.first in
    let last = c.in-Through.last in
    let span = c.if-not-is_of.self.span in
    let from = c.behind_lasting-from.result in
    let same : c.events.result.now ≡ view.events = c.events.ensures.value ∙ ap (λ (v : JudgeView). v.events) c.run.view_is in
    let is : IsWindow view.events m (Through first last) = subst (λ (es : List Event). IsWindow es m (Through first last)) same c.in-Through.ensures in
    let lies = c.windows_lie_in_the_run.ensures.through view.events m first last c.requires.there is in
    let held : Held view span first last = elim c.if-not-is_of.branch [
      | then-not-is_of+in_ok-self w ↦
          subst (λ (s : MomentAnswers). Held view s.span first last) (sym w.self-is) (w.in_ok-self.ensures.span, w.in_ok-self.ensures.first, sized first last w.in_ok-self.field-0 w.in_ok-self.ensures.last)
      | else-not-is_of w ↦
          let t = true_of c.is_of.result w.if-not-is_of.false in
          subst (λ (s : MomentAnswers). Held view s.span first last) (sym w.self-is) (c.requires.span, c.is_of.ensures.first t, sized first last c.args.self.now.span (c.is_of.ensures.last t))
    ] in
    let order : span.first ≤ m = omega (arith, lies, held.1) in
    let within : m ≤ span.first + length span.lasts.items = omega (arith, lies, held.1, held.2, held.0.sizes) in
    let behind : IsFirstBehind view m span.first from =
    first_behind view m span.first from span.lasts.items held.0.lasts order within c.requires.there c.behind_lasting-from.ensures in
    (first, is, subst (λ (n : ℕ). IsFirstBehind view m n from) held.1 behind)
