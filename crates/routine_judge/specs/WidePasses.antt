-- A moment that passes by the images of a later one, between which no event is a fence or a mark.
use Rattle.std.specs.Prelude.{◌≡◌, ℕ, ◌<◌, ◌≤◌, List, Option, None, length, slice_index_or}
use Rattle.recovery.specs.Boxes.{IsNoFence}
use Rattle.routine_judge.specs.CutsInRecovery.{AllAnswered}
use Rattle.routine_judge.specs.RightAnswers.{RunsOn}
use Rattle.routine_judge.specs.Standing.{IsBasis, StaysBy, source_at}
use Rattle.routine_judge.specs.Views.{JudgeView}
use Rattle.routine_judge.specs.declared.cuts.wide.WidePass.{WidePass}
use Rattle.routine_judge.specs.declared.history.moments.Window.{Window}
use Rattle.store_trace.specs.Marks.{begun_by, ended_by}
use Rattle.store_trace.specs.declared.event.Event.{Event}

-- the event takes no image away, and leaves the right answers
pub record IsQuiet (event : Event) : Type 0 where
  pub no_fence : IsNoFence event
  pub none_begins : begun_by event ≡ None
  pub none_ends : ended_by event ≡ None

-- so do those from moment m on before a later one
abbrev pub AreQuiet : List Event → ℕ → ℕ → Type 0
AreQuiet events m wide = (i : ℕ) (d : Event) → m ≤ i → i < wide → IsQuiet (slice_index_or events i d)

-- the later moment has all images of moment m, which has this window, and its right answers
pub record IsAhead (view : JudgeView) (window : Window) (m wide : ℕ) : Type 0 where
  pub order : m ≤ wide
  pub there : wide ≤ length view.events
  pub stays : m < wide → StaysBy view.right window
  pub quiet : AreQuiet view.events m wide

-- whatever cuts leave of the images of the later one is answered well by the right answers of the moment
pub record IsPassedBy (most : Option ℕ) (view : JudgeView) (window : Window) (pass : WidePass) : Type 0 where
  pub ahead : IsAhead view window pass.moment pass.wide
  pub is_basis : IsBasis view window pass.moment
  pub ends : ¬ RunsOn view (source_at view window pass.moment)
  pub answers : AllAnswered view (source_at view window pass.moment) most pass.wide
