use Rattle.std.proofs.Common.{◌≡◌, ◌∙◌, ap, sym, subst, arith, length, List, ℕ, Result}
use Rattle.recovery.specs.declared.recovery_run.Cause as run
use Rattle.routine_judge.specs.SpanAnswers.{AreFullAnswers}
use Rattle.routine_judge.specs.Views.{JudgeView}
use Rattle.routine_judge.proofs.span.SpanAnswers.of.Goals as goal

pub returns-clause-span : goal.returns-clause-span
returns-clause-span c =
    let view = c.args.run.now in
    let same : view.events ≡ c.events.result.now = sym (c.events.ensures.value ∙ ap (λ (v : JudgeView). v.events) c.run.view_is) in
    record {
      founds = c.in_ok-founds.ensures.answers;
      lasts = c.in_ok-lasts.ensures.lasts view same
          (subst (λ (founds : List (Result (List ℕ) run.Cause)). AreFullAnswers view c.args.first founds) (sym c.deref.ensures.value) c.in_ok-founds.ensures.answers);
      sizes =
          let size = ap (λ (founds : List (Result (List ℕ) run.Cause)). length founds) c.deref.ensures.value in
          omega (arith, size, c.in_ok-lasts.ensures.count);
    }
