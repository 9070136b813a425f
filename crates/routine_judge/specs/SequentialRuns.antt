-- The sequential runs of a program, and which answers they make right.
-- Source: durable linearizability (Izraelevitz, Mendes, Scott, DISC 2016), with the program itself as the specification: after a power cut
-- recovery shows what it would show after a run in which each operation is made alone.
use Rattle.std.specs.Prelude.{◌≡◌, ℕ, List, length, Result, Ok}
use Rattle.std.specs.List.{Contains}
use Rattle.machine.specs.Replies.{trace_in}
use Rattle.machine.specs.Run.{Config, RunsTo, started}
use Rattle.machine.specs.declared.schedule.items.Step.{Step}
use Rattle.recovery.specs.Images.{AnswersOn}
use Rattle.recovery.specs.declared.recovery_run.Cause as run
use Rattle.store_trace.specs.declared.event.Event.{Event}
use Rattle.routine_judge.specs.Fitting.{Fits, IsSequential, IsWordOf}
use Rattle.routine_judge.specs.Images.{full_image}
use Rattle.routine_judge.specs.MarkFaults.{AreSound}
use Rattle.routine_judge.specs.Order.{AreAtRest}
use Rattle.routine_judge.specs.Views.{ProgramView}
use Rattle.routine_judge.specs.declared.history.overlap.Overlap.TheVariants.{Never}
use Rattle.routine_judge.specs.declared.order.sequential_runs.SequentialRun.{SequentialRun}
use Rattle.routine_judge.specs.declared.order.sequential_runs.SequentialRuns.{SequentialRuns}

-- a sequential run from `start` to `end`, whose marks are sound, and in which no operation is pending at its end
pub record IsSequentialRun (start end : Config) : Type 0 where
  pub steps : List Step
  pub runs : RunsTo start steps end
  pub sequential : IsSequential start steps
  pub sound : AreSound Never (trace_in end.common) (length (trace_in end.common))
  pub rests : AreAtRest (trace_in end.common)

-- so of a program
abbrev pub IsSequentialRunOf : ProgramView → Config → Type 0
IsSequentialRunOf view end = IsSequentialRun (started view.program view.medium view.harts) end

-- on the full image of a run of the program with these events the routine comes to this
abbrev pub ShowsAfter : ProgramView → List Event → Result (List ℕ) run.Cause → Type 0
ShowsAfter view events found = AnswersOn view.routine view.steps (full_image view.medium events) found

-- the noted run stands for this one: it has its word, and what the routine comes to on its full image
pub record IsNoteOf (view : ProgramView) (end : Config) (note : SequentialRun) : Type 0 where
  pub word : IsWordOf (trace_in end.common) note.word
  pub shows : ShowsAfter view (trace_in end.common) note.found

-- these stand for all sequential runs of the program at rest, and for no others
pub record AreSequentialRuns (view : ProgramView) (notes : List SequentialRun) : Type 0 where
  pub each : (note : SequentialRun) → Contains notes note → (end : Config) × IsSequentialRunOf view end × IsNoteOf view end note
  pub all : (end : Config) → IsSequentialRunOf view end → (note : SequentialRun) × Contains notes note × IsNoteOf view end note

-- the runs that were noted
abbrev pub notes_in : SequentialRuns → List SequentialRun
notes_in runs = runs.notes.items

-- two notes say the same
pub record IsSameNote (one other : SequentialRun) : Type 0 where
  pub word : one.word.operations.items ≡ other.word.operations.items
  pub found : one.found ≡ other.found

-- on the full image of a sequential run at rest that fits the events p the routine comes to this
pub record FittingShows (view : ProgramView) (p : List Event) (found : Result (List ℕ) run.Cause) : Type 0 where
  pub end : Config
  pub is_run : IsSequentialRunOf view end
  pub fits : Fits (trace_in end.common) p
  pub shows : ShowsAfter view (trace_in end.common) found

-- the bytes are a right answer after the events p
abbrev pub IsRightAfter : ProgramView → List Event → List ℕ → Type 0
IsRightAfter view p bytes = FittingShows view p (Ok bytes)

-- no sequential run at rest fits the events p
abbrev pub NoneFits : ProgramView → List Event → Type 0
NoneFits view p = (end : Config) → IsSequentialRunOf view end → ¬ Fits (trace_in end.common) p
