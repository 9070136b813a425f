-- The right answers of a moment, by whose full images give them.
use Rattle.std.proofs.Common.{◌≡◌, ◌∙◌, ℕ, List, length, ap, subst, sym}
use Rattle.program.specs.Sections.{Sections}
use Rattle.routine_judge.proofs.Sourcing.{own_answers}
use Rattle.routine_judge.specs.Order.{AreSoundByHart}
use Rattle.routine_judge.specs.Rules.{program_with}
use Rattle.routine_judge.specs.SequentialRuns.{AreSequentialRuns, notes_in}
use Rattle.routine_judge.specs.Sources.{AreSources, right_from}
use Rattle.routine_judge.specs.Spans.{AreWindows}
use Rattle.routine_judge.specs.Views.{JudgeView, own_moments, sequential_runs}
use Rattle.routine_judge.specs.declared.history.moments.Windows.{Windows}
use Rattle.routine_judge.specs.declared.rule.ProgramRuns.{ProgramRuns}
use Rattle.routine_judge.specs.declared.sources.Sources.{Sources}
use Rattle.routine_judge.specs.declared.sources.Sources.TheVariants.{Moments, Sequential}
use Rattle.store_trace.specs.declared.event.Event.{Event}
use Rattle.routine_judge.proofs.answers.MomentAnswers.renew.Goals as goal

-- what the sources say
windows_of : (medium : List (List ℕ)) (routine : Sections) (steps : ℕ) (events : List Event) (sources : Sources) (windows : Windows) → sources ≡ Moments windows →
    AreSources medium routine steps events sources → AreWindows events windows
windows_of medium routine steps events sources windows is all = subst (λ (s : Sources). AreSources medium routine steps events s) is all

by_moments : (view : JudgeView) (sources : Sources) (windows : Windows) → sources ≡ Moments windows → right_from sources ≡ view.right → view.right ≡ own_moments
by_moments view sources windows is right = sym right ∙ ap right_from is

noted_of : (medium : List (List ℕ)) (routine : Sections) (steps : ℕ) (events : List Event) (sources : Sources) (noted : ProgramRuns) → sources ≡ Sequential noted →
    AreSources medium routine steps events sources →
    AreSequentialRuns (program_with noted medium routine steps) (notes_in noted.runs.now) × AreSoundByHart events (length events)
noted_of medium routine steps events sources noted is all = subst (λ (s : Sources). AreSources medium routine steps events s) is all

by_noted : (view : JudgeView) (sources : Sources) (noted : ProgramRuns) → sources ≡ Sequential noted → right_from sources ≡ view.right →
    view.right ≡ sequential_runs noted.program.now noted.harts
by_noted view sources noted is right = sym right ∙ ap right_from is

pub right_window-requires-clause-windows : goal.right_window-requires-clause-windows
right_window-requires-clause-windows c =
    let i = c.run.inside in
    subst (λ (es : List Event). AreWindows es c.in-Moments.windows) (ap (λ (v : JudgeView). v.events) c.run.view_is)
    (windows_of i.medium.now i.routine.now i.steps i.trace.now.events i.sources c.in-Moments.windows c.in-Moments.is c.run.invariant.3)

pub returns-in_ok-renew_by_window-in-Moments-clause-right : goal.returns-in_ok-renew_by_window-in-Moments-clause-right
returns-in_ok-renew_by_window-in-Moments-clause-right c =
    let view = c.args.run.now in
    let own = by_moments view c.run.inside.sources c.in-Moments.windows c.in-Moments.is (ap (λ (v : JudgeView). v.right) c.run.view_is) in
    own_answers view c.renew_by_window.new.self own c.in_ok-window-in-Moments.window c.args.moment c.in_ok-renew_by_window-in-Moments.ensures.window c.in_ok-renew_by_window-in-Moments.ensures.right
