-- The sequential runs of a program, as a search makes and notes them.
-- Source: durable linearizability (Izraelevitz, Mendes, Scott, DISC 2016), with the program itself as the specification.
use Rattle.std.specs.Prelude.{◌≡◌, ℕ, List, Option, Some, None, length}
use Rattle.std.specs.List.{Contains}
use Rattle.machine.specs.Replies.{trace_in}
use Rattle.machine.specs.Run.{Config, started}
use Rattle.machine.specs.declared.recording.setup.Setup.{Setup}
use Rattle.program.specs.Sections.{Sections}
use Rattle.recovery.specs.Images.{AnswersOn}
use Rattle.routine_judge.specs.Fitting.{IsStateOf, IsWordOf}
use Rattle.routine_judge.specs.MarkFaults.{AreSound}
use Rattle.routine_judge.specs.Operations.{IsPendingBy}
use Rattle.routine_judge.specs.Order.{AreAtRest}
use Rattle.routine_judge.specs.SequentialRuns.{AreSequentialRuns, IsNoteOf, IsSequentialRunOf, notes_in}
use Rattle.routine_judge.specs.Views.{ProgramView}
use Rattle.routine_judge.specs.declared.history.overlap.Overlap.TheVariants.{Never}
use Rattle.routine_judge.specs.declared.order.sequential.SequentialState.{SequentialState}
use Rattle.routine_judge.specs.declared.order.sequential_runs.SequentialRun.{SequentialRun}
use Rattle.routine_judge.specs.declared.order.word.Word.{Word}
use Rattle.schedule_states.specs.Happening.{IsLed, full_image}
use Rattle.store_trace.specs.declared.event.Event.{Event}
use Rattle.every_schedule.specs.declared.sequential.Sequential.{Sequential}
use Rattle.every_schedule.specs.declared.sequential.Sequential.TheVariants as known

-- the program of a setup, and the routine that recovers its medium
abbrev pub program_of : Setup → Sections → ℕ → ProgramView
program_of s recovery steps = record { program = s.program; medium = s.medium; harts = s.harts; routine = recovery; steps = steps }

-- a sequential run with these events goes on by a step of the hart: their marks are right, and no operation of another hart is pending
pub record GoesOn (events : List Event) (hart : ℕ) : Type 0 where
  pub sound : AreSound Never events (length events)
  pub alone : (beginner op : ℕ) → IsPendingBy events beginner op → beginner ≡ hart

-- what is kept of a run: what it has done, or that a mark is wrong
abbrev pub IsKeptOf : Option SequentialState → List Event → Type 0
IsKeptOf (Some state) events = IsStateOf events state
IsKeptOf None events = ¬ AreSound Never events (length events)

-- a run of the program in which each step is such a one leads to these events, behind which loads find these lines of the medium
pub record IsOnItsWay (view : ProgramView) (events : List Event) (lines : List (List ℕ)) : Type 0 where
  pub end : Config
  pub led : IsLed GoesOn (started view.program view.medium view.harts) end
  pub events_are : events ≡ trace_in end.common
  pub lines_are : lines ≡ full_image view.medium events

-- where these are the events of a sequential run at rest, one is noted with its word, and with what the routine comes to on the full image
abbrev pub IsNoted : ProgramView → List SequentialRun → List Event → List (List ℕ) → Type 0
IsNoted view notes events full = AreSound Never events (length events) → AreAtRest events →
    (note : SequentialRun) × Contains notes note × IsWordOf events note.word × AnswersOn view.routine view.steps full note.found

-- each noted run is one of the program
abbrev pub AreOfProgram : ProgramView → List SequentialRun → Type 0
AreOfProgram view notes = (note : SequentialRun) → Contains notes note → (end : Config) × IsSequentialRunOf view end × IsNoteOf view end note

-- the note has this word, and what a routine comes to on these lines
pub record IsNewNote (recovery : Sections) (steps : ℕ) (lines : List (List ℕ)) (word : Word) (note : SequentialRun) : Type 0 where
  pub word_is : note.word.operations.items ≡ word.operations.items
  pub shows : AnswersOn recovery steps lines note.found

-- where all sequential runs at rest were found, these are noted
abbrev pub AreAllNoted : ProgramView → Sequential → Type 0
AreAllNoted view (known.All runs states) = AreSequentialRuns view (notes_in runs)
AreAllNoted view (known.TooMany bound) = Unit {0}
