-- What a contract sees of a run that is judged by a recovery routine, of a program whose runs are, and of a workspace.
use Rattle.std.specs.Prelude.{ℕ, List}
use Rattle.program.specs.Sections.{Sections}
use Rattle.store_trace.specs.declared.event.Event.{Event}

-- whose full images give the right answers of a moment: some of the run's own moments, or the sequential runs of a program on so many harts
-- that fit the moment's events
pub data RightBy : Type 0 where
  own_moments : RightBy
  sequential_runs : Sections → ℕ → RightBy

-- the routine and the most steps that it makes on an image; the lines of the medium from which the run started, and its events; and whose
-- full images give the right answers
pub record JudgeView : Type 0 where
  pub routine : Sections
  pub steps : ℕ
  pub start : List (List ℕ)
  pub events : List Event
  pub right : RightBy

-- a program on so many harts, over a medium, and the routine that recovers it, with the most steps that it makes on an image
pub record ProgramView : Type 0 where
  pub program : Sections
  pub medium : List (List ℕ)
  pub harts : ℕ
  pub routine : Sections
  pub steps : ℕ

-- what a contract sees of what images are judged in: the routine, and how many lines the media have
pub record WorkspaceView : Type 0 where
  pub program : Sections
  pub lines : ℕ
