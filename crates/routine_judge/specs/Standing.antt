-- What a judge of moments knows of the moment that it judged last.
use Rattle.std.specs.Prelude.{◌≡◌, ◌≢◌, ◌≤◌, ℕ, Bool, List, IfSome, length, take, true}
use Rattle.routine_judge.specs.Gathered.{AreKept}
use Rattle.routine_judge.specs.Order.{AreOrdered}
use Rattle.routine_judge.specs.SpanAnswers.{IsSpan}
use Rattle.routine_judge.specs.RightAnswers.{AsksOf, IsFoundOf, IsRightWindow, RunsOn, Source, of_sequential, of_window, program_of, same_bytes}
use Rattle.routine_judge.specs.Views.{JudgeView, RightBy, own_moments, sequential_runs}
use Rattle.routine_judge.specs.declared.answers.MomentAnswers.{MomentAnswers}
use Rattle.routine_judge.specs.declared.judge.MomentJudge.{MomentJudge}
use Rattle.routine_judge.specs.declared.order.so_far.OrderSoFar.{OrderSoFar}
use Rattle.routine_judge.specs.declared.history.moments.Window.{Window}
use Rattle.routine_judge.specs.declared.history.moments.Window.TheVariants.{Itself}
use Rattle.verdict.specs.Verdicts.{AreFlagged, IsMomentVerdict}
use Rattle.verdict.specs.declared.moment_verdict.verdict.MomentVerdict.TheVariants as moments
use Rattle.store_trace.specs.History.{at_moment}
use Rattle.store_trace.specs.declared.event.Event.{Event}

-- the precedence is that of so many first events
pub record IsOrderOf (events : List Event) (order : OrderSoFar) : Type 0 where
  pub within : order.count ≤ length events
  pub ordered : AreOrdered (take order.count events) order.precedence

-- Where the right answers of moment m come from. The window counts where moments of the run give them.
abbrev pub source_by : RightBy → JudgeView → Window → ℕ → Source
source_by own_moments view window m = of_window window m
source_by (sequential_runs program harts) view window m = of_sequential (program_of view program harts) (take m view.events)

abbrev pub source_at : JudgeView → Window → ℕ → Source
source_at view window m = source_by view.right view window m

-- the window is that of moment m, where it counts
abbrev pub IsBasisBy : RightBy → JudgeView → Window → ℕ → Type 0
IsBasisBy own_moments view window m = IsRightWindow view m window
IsBasisBy (sequential_runs program harts) view window m = Unit {0}

abbrev pub IsBasis : JudgeView → Window → ℕ → Type 0
IsBasis view window m = IsBasisBy view.right view window m

-- behind an event that is no mark the right answers are the same
abbrev pub StaysBy : RightBy → Window → Type 0
StaysBy own_moments window = window ≢ Itself
StaysBy (sequential_runs program harts) window = Unit {0}

-- what is kept from one moment to the next: right answers of a window that doesn't move, and what was found of a span; or the precedence of
-- the first events
abbrev pub AreKeptBy : RightBy → JudgeView → MomentAnswers → Type 0
AreKeptBy own_moments view answers = AreKept view answers.window answers.right × IsSpan view answers.span
AreKeptBy (sequential_runs program harts) view answers = IsOrderOf view.events answers.order

abbrev pub AreKeptFor : JudgeView → MomentAnswers → Type 0
AreKeptFor view answers = AreKeptBy view.right view answers

-- The moment passes by its right answers, and each line of which the routine asks bytes of an image of it is flagged.
pub record IsPassed (view : JudgeView) (flags : List Bool) (window : Window) (m : ℕ) : Type 0 where
  pub there : m ≤ length view.events
  pub is_basis : IsBasis view window m
  pub flagged : AreFlagged (AsksOf view m) (at_moment view.events m) flags
  pub ends : ¬ RunsOn view (source_at view window m)
  pub passes : IsMomentVerdict true (same_bytes view m) (AsksOf view m) (IsFoundOf view (source_at view window m) m) (at_moment view.events m) moments.Pass

-- what a worker keeps is right, and of the run's routine and medium
pub record StandsIn (view : JudgeView) (judge : MomentJudge) : Type 0 where
  pub size : length judge.opener ≡ length view.start
  pub program : judge.routine.program ≡ view.routine
  pub lines : judge.routine.lines ≡ length view.start
  pub kept : AreKeptFor view judge.answers
  pub passed : IfSome judge.passed (λ m. IsPassed view judge.opener judge.answers.window m)
