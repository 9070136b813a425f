-- Moments of the run give the right answers.
use Rattle.std.proofs.Common.{◌≡◌, ◌∙◌, ℕ, List, ap, subst, sym}
use Rattle.program.specs.Sections.{Sections}
use Rattle.routine_judge.specs.SpanAnswers.{IsSpan}
use Rattle.routine_judge.specs.Sources.{AreSources, right_from}
use Rattle.routine_judge.specs.Spans.{AreWindows}
use Rattle.routine_judge.specs.Standing.{AreKeptBy}
use Rattle.routine_judge.specs.Views.{JudgeView, RightBy, own_moments, sequential_runs}
use Rattle.routine_judge.specs.declared.answers.MomentAnswers.{MomentAnswers}
use Rattle.routine_judge.specs.declared.history.moments.Windows.{Windows}
use Rattle.routine_judge.specs.declared.rule.ProgramRuns.{ProgramRuns}
use Rattle.routine_judge.specs.declared.sources.Sources.{Sources}
use Rattle.routine_judge.specs.declared.sources.Sources.TheVariants.{Moments, Sequential}
use Rattle.store_trace.specs.declared.event.Event.{Event}
use Rattle.routine_judge.proofs.right_moments.window_of.Goals as goal

windows_of : (medium : List (List ℕ)) (routine : Sections) (steps : ℕ) (events : List Event) (sources : Sources) (windows : Windows) → sources ≡ Moments windows →
    AreSources medium routine steps events sources → AreWindows events windows
windows_of medium routine steps events sources windows is all = subst (λ (s : Sources). AreSources medium routine steps events s) is all

span_of : (right : RightBy) (view : JudgeView) (answers : MomentAnswers) → right ≡ own_moments → AreKeptBy right view answers → IsSpan view answers.span
span_of right view answers own kept = (subst (λ (r : RightBy). AreKeptBy r view answers) own kept).1

not_both : (sources : Sources) (runs : ProgramRuns) (right : RightBy) → sources ≡ Sequential runs → right_from sources ≡ right → right ≡ own_moments → ⊥
not_both sources runs right is from own =
    let both : ◌≡◌ {A = RightBy} (sequential_runs runs.program.now runs.harts) own_moments = sym (ap right_from is) ∙ from ∙ own in
    absurd cc

pub right_window-requires-clause-windows : goal.right_window-requires-clause-windows
right_window-requires-clause-windows c =
    let i = c.run.inside in
    subst (λ (es : List Event). AreWindows es c.in-Moments.windows) (ap (λ (v : JudgeView). v.events) c.run.view_is)
    (windows_of i.medium.now i.routine.now i.steps i.trace.now.events i.sources c.in-Moments.windows c.in-Moments.is c.run.invariant.3)

pub right_window-requires-clause-span : goal.right_window-requires-clause-span
right_window-requires-clause-span c =
    let view = c.args.run.now in
    span_of view.right view c.none-answers.result c.requires.own (c.none-answers.ensures view)

pub unreachable-requires : goal.unreachable-requires
unreachable-requires c =
    not_both c.run.inside.sources c.in-Sequential.field-0 c.args.run.now.right c.in-Sequential.is (ap (λ (v : JudgeView). v.right) c.run.view_is) c.requires.own
