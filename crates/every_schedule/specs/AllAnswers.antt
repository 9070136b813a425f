-- What holds of every schedule of a program, by a recovery routine.
-- Source: durable linearizability (Izraelevitz, Mendes, Scott, DISC 2016), with the program itself as the specification.
use Rattle.std.specs.Prelude.{◌≡◌, ◌≢◌, ℕ, List, [], Ok, length}
use Rattle.crash_test.specs.Judging.{HasJudgement}
use Rattle.machine.specs.Replies.{trace_in}
use Rattle.machine.specs.Represents.{MachineView, Represents}
use Rattle.machine.specs.Run.{Config, RunsTo, started}
use Rattle.machine.specs.RunValues.{RunView, start_of}
use Rattle.machine.specs.declared.recording.setup.Setup.{Setup}
use Rattle.machine.specs.declared.schedule.items.Step.{Step}
use Rattle.recovery.specs.Images.{AnswersOn}
use Rattle.routine_judge.specs.MarkFaults.{AreSound, IsFault}
use Rattle.routine_judge.specs.Rules.{JudgementView}
use Rattle.routine_judge.specs.SequentialRuns.{AreSequentialRuns, IsRightAfter, notes_in}
use Rattle.routine_judge.specs.Views.{ProgramView, sequential_runs}
use Rattle.routine_judge.specs.declared.cause.Cause.{Cause}
use Rattle.routine_judge.specs.declared.history.fault.MarkFault.{MarkFault}
use Rattle.routine_judge.specs.declared.history.fault.MarkFault.TheVariants.{Memory}
use Rattle.routine_judge.specs.declared.history.overlap.Overlap.TheVariants.{BetweenHarts}
use Rattle.routine_judge.specs.declared.order.sequential_runs.SequentialRun.{SequentialRun}
use Rattle.store_trace.specs.Cut.{IsCut, number_in}
use Rattle.store_trace.specs.History.{history}
use Rattle.store_trace.specs.Image.{image}
use Rattle.store_trace.specs.Marks.{begun}
use Rattle.store_trace.specs.declared.event.Event.{Event}
use Rattle.verdict.specs.declared.moment_verdict.verdict.Verdict.{Verdict}
use Rattle.verdict.specs.declared.moment_verdict.verdict.Verdict.TheVariants as verdicts
use Rattle.every_schedule.specs.EverySchedule.{IsBadlyStopped, IsFoundBy, IsStuck, all_moments}
use Rattle.every_schedule.specs.Sequential.{program_of}
use Rattle.every_schedule.specs.declared.outcome.Finding.{Finding}
use Rattle.every_schedule.specs.declared.outcome.Finding.TheVariants as findings
use Rattle.every_schedule.specs.declared.outcome.Outcome.{Outcome}
use Rattle.every_schedule.specs.declared.routine_run.RoutineRun.{RoutineRun}

-- on this medium the routine has an answer, and one that is right after these events
pub record AnswersRight (view : ProgramView) (events : List Event) (left : List (List ℕ)) : Type 0 where
  pub bytes : List ℕ
  pub answers : AnswersOn view.routine view.steps left (Ok bytes)
  pub right : IsRightAfter view events bytes

-- from the first Begin on it has one on each image of each cut of these events
abbrev pub AnswersOnCuts : ProgramView → List Event → Type 0
AnswersOnCuts view events = begun events ≢ [] → (cut : List (ℕ × ℕ)) → IsCut (history events) cut →
    AnswersRight view events (image view.medium (number_in cut) (history events))

-- Whatever schedule has been run, of any length and with evictions anywhere, its marks are right; and once an operation has begun, the routine
-- answers rightly on all that a power cut may leave.
abbrev pub AllAnswer : ProgramView → Type 0
AllAnswer view = (steps : List Step) (end : Config) → RunsTo (started view.program view.medium view.harts) steps end →
    AreSound BetweenHarts (trace_in end.common) (length (trace_in end.common)) × AnswersOnCuts view (trace_in end.common)

-- So it does on what a power cut leaves of whatever machine has run it, with a cache of any size.
abbrev pub AllAnswerOnMachines : ProgramView → Type 0
AllAnswerOnMachines view = (machine : MachineView) (steps : List Step) (end : Config) → RunsTo (started view.program view.medium view.harts) steps end →
    Represents machine end → begun (trace_in end.common) ≢ [] → AnswersRight view (trace_in end.common) machine.shared.cache.lines

-- a run of the setup has these events
pub record IsReached (s : Setup) (events : List Event) : Type 0 where
  pub steps : List Step
  pub end : Config
  pub runs : RunsTo (start_of s) steps end
  pub events_are : events ≡ trace_in end.common

-- some schedule begins an operation
abbrev pub SomeBegins : Setup → Type 0
SomeBegins s = (events : List Event) × IsReached s events × (begun events ≢ [])

-- how one run of the program is judged: by the sequential runs that fit; operations of several harts may overlap
abbrev pub judged_atomically : ProgramView → JudgementView
judged_atomically view =
    record { routine = view.routine; steps = view.steps; overlap = BetweenHarts; right = sequential_runs view.program view.harts }

-- the verdict isn't that of a pass
abbrev pub IsWrong : Verdict Cause → Type 0
IsWrong (verdicts.Pass moments images) = ⊥
IsWrong (verdicts.Open moments images undecided) = ⊥
IsWrong (verdicts.Fail moment image cause of_too_many) = Unit {0}
IsWrong (verdicts.TooMany moment lines) = Unit {0}
IsWrong (verdicts.TooLong moment) = Unit {0}

-- the finding is this verdict, which isn't that of a pass
abbrev pub IsWrongThat : Verdict Cause → Finding Cause MarkFault → Type 0
IsWrongThat verdict finding = (finding ≡ findings.Verdict verdict) × IsWrong verdict

-- This is said of one run of the program: its verdict, its first wrong mark, or that it begins no operation, or what keeps it from being whole,
-- where a hart has stopped badly, or that it is stuck.
abbrev pub IsSaidByRoutine : ProgramView → RunView → Finding Cause MarkFault → Type 0
IsSaidByRoutine view run (findings.Verdict verdict) = HasJudgement run (judged_atomically view) all_moments verdict × IsWrong verdict
IsSaidByRoutine view run (findings.Refused fault) = IsFault BetweenHarts run.events fault × (fault ≢ Memory)
IsSaidByRoutine view run (findings.NotWhole causes) = IsBadlyStopped [] run causes.items
IsSaidByRoutine view run findings.NoWayOut = IsStuck run

-- what was found is said of a run of the setup
abbrev pub IsFoundByRoutine : ProgramView → Setup → Outcome Cause MarkFault → Type 0
IsFoundByRoutine view s outcome = IsFoundBy (IsSaidByRoutine view) s outcome

-- the image is good after these events, where these are the sequential runs
abbrev pub IsGoodAfter : ProgramView → List SequentialRun → List Event → List (List ℕ) → Type 0
IsGoodAfter view notes events left = begun events ≢ [] → AreSequentialRuns view notes → AnswersRight view events left

-- one run is judged by all sequential runs of this setup's program
pub record IsOfSetup (judge : RoutineRun) (s : Setup) : Type 0 where
  pub program_is : judge.runs.program.now ≡ s.program
  pub harts_is : judge.runs.harts ≡ s.harts
  pub noted : AreSequentialRuns (program_of s judge.recovery.program.now judge.recovery.steps) (notes_in judge.runs.runs.now)
