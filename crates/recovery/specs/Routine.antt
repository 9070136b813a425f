-- A routine between two runs, and what a run of it comes to.
use Rattle.std.specs.Prelude.{◌≡◌, ℕ, List, Bool, Result, length, slice_index}
use Rattle.line_memory.specs.declared.TheConstants.{TEXT_SIZE}
use Rattle.store_trace.specs.declared.event.Event.{Event}
use Rattle.program.specs.Sections.{Sections}
use Rattle.machine.specs.Replies.{trace_in}
use Rattle.machine.specs.Run.{Config, started}
use Rattle.recovery.specs.Memory.{IsAtStart}
use Rattle.recovery.specs.declared.recovery_run.Cause.{Cause}
use Rattle.recovery.specs.Answers.{answer}
use Rattle.recovery.specs.Asking.{asked}
use Rattle.verdict.specs.declared.branches.question.Question.{Question}
use Rattle.recovery.specs.Recovery.{RunsFor}
use Rattle.recovery.specs.declared.engine.Engine.{Engine}

-- what a contract sees of a routine: its program, how many lines its images have, and what its last run asked
pub record RoutineView : Type 0 where
  pub program : Sections
  pub lines : ℕ
  pub asked : List Question

-- nothing is left of an earlier run, in memory, among the run's own bytes or in the text that is fetched
pub record IsAtRest (engine : Engine) : Type 0 where
  pub memory : IsAtStart engine.world.held (length engine.world.held.image)
  pub own : (l : ℕ) → slice_index engine.world.own l ≡ 0
  pub start : engine.text.start ≡ engine.world.held.program.text
  pub fetched : engine.text.bytes ≡ engine.text.start
  pub size : length engine.world.held.program.text ≡ TEXT_SIZE

-- of a program's recovery run on an image: what it asks, and what it comes to
pub record Recovers (program : Sections) (image : List (List ℕ)) (steps : ℕ) (questions : List Question) (found : Result (List ℕ) Cause) : Type 0 where
  pub end : Config
  pub full : Bool
  pub runs : RunsFor (started program image 1) steps end full
  pub asks : questions ≡ asked end.common.history
  pub comes : found ≡ answer end full

-- the same with its events, the oldest first
pub record RecoversWith (program : Sections) (image : List (List ℕ)) (steps : ℕ) (questions : List Question) (events : List Event) (found : Result (List ℕ) Cause) : Type 0 where
  pub end : Config
  pub full : Bool
  pub runs : RunsFor (started program image 1) steps end full
  pub asks : questions ≡ asked end.common.history
  pub traces : events ≡ trace_in end.common
  pub comes : found ≡ answer end full
