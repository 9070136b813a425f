-- What `judge` comes to.
use Rattle.std.specs.Prelude.{◌≡◌, ◌≢◌, ◌≤◌, ℕ, zero, suc, Bool, true, false, IfSome, List, [], Option, Some, None, Result, Ok, MatchResult, ◌++◌, codes, decimal, string_bytes, ⊤}
use Rattle.arguments.specs.Cuts.{AreFewCuts}
use Rattle.arguments.specs.Line.{IsJudgedWithin}
use Rattle.arguments.specs.declared.asked.EventSource.{EventSource}
use Rattle.arguments.specs.declared.asked.EventSource.TheVariants as sources
use Rattle.arguments.specs.declared.asked.JudgeCommand.{JudgeCommand}
use Rattle.arguments.specs.declared.asked.MostCuts.{MostCuts}
use Rattle.arguments.specs.declared.asked.RightAnswers.{RightAnswers}
use Rattle.arguments.specs.declared.asked.RightAnswers.TheVariants as rights
use Rattle.arguments.specs.declared.asked.ScheduledRun.{ScheduledRun}
use Rattle.arguments.specs.declared.asked.TracedEvents.{TracedEvents}
use Rattle.hart.specs.HartLines.{trap_number}
use Rattle.crash_test.specs.Judging.{HasJudgementOn, IsToldOn}
use Rattle.crash_test.specs.Loading.{IsLoaded}
use Rattle.crash_test.specs.Programs.{IsProgramOf}
use Rattle.crash_test.specs.declared.losses.ExplainedImage.{ExplainedImage}
use Rattle.every_schedule.specs.Sequential.{AreAllNoted, program_of}
use Rattle.every_schedule.specs.declared.sequential.Sequential.{Sequential}
use Rattle.every_schedule.specs.declared.sequential.Sequential.TheVariants as known
use Rattle.machine.specs.declared.recording.setup.Setup.{Setup}
use Rattle.routine_judge.specs.Rules.{AreNotedFor, JudgementView, overlap_of, right_by}
use Rattle.routine_judge.specs.Verdicts.{IsRefusal}
use Rattle.routine_judge.specs.Views.{RightBy, own_moments, sequential_runs}
use Rattle.routine_judge.specs.declared.history.overlap.Overlap.{Overlap}
use Rattle.routine_judge.specs.declared.history.overlap.Overlap.TheVariants as overlaps
use Rattle.routine_judge.specs.declared.cause.Cause.{Cause}
use Rattle.routine_judge.specs.declared.cause.Cause.TheVariants as causes
use Rattle.routine_judge.specs.declared.rule.Rule.{Rule}
use Rattle.verdict.specs.declared.moment_verdict.verdict.Verdict.{Verdict}
use Rattle.verdict.specs.declared.moment_verdict.verdict.Verdict.TheVariants as verdicts
use Rattle.recovery.specs.declared.recovery_run.Cause.{Cause as RunCause}
use Rattle.recovery.specs.declared.recovery_run.Cause.TheVariants as runs
use Rattle.debugger.specs.StreamFailures.{AppendsFront}
use Rattle.command_line.specs.AllSchedules.{told_bound}
use Rattle.command_line.specs.Demanding.{MeetsWhole}
use Rattle.command_line.specs.Failures.{failure_of_judge}
use Rattle.command_line.specs.JudgedEvents.{OpensJudgedTrace}
use Rattle.command_line.specs.MakingRuns.{MakesRun}
use Rattle.command_line.specs.Progress.{IsToldIf, Progresses, gets_line}
use Rattle.command_line.specs.Reading.{ReadsRoutine, ReadsRun, setup_of}
use Rattle.command_line.specs.Reasons.{Explains, IsExplainedOf}
use Rattle.command_line.specs.Reports.{line_end}
use Rattle.command_line.specs.Steps.{First, Prints, Reads, Step, Still, Tells}
use Rattle.command_line.specs.Traces.{HasPlaces, IsOpen as HasTheirLines, events_of, medium_of}
use Rattle.command_line.specs.Verdicts.{failing, first_of, row_asked}
use Rattle.command_line.specs.declared.reading.ReadRoutine.{ReadRoutine}
use Rattle.command_line.specs.declared.answer.Answer.{Answer}
use Rattle.command_line.specs.declared.failure.Failure.{Failure}
use Rattle.command_line.specs.declared.failure.Failure.TheVariants.{Memory}
use Rattle.command_line.specs.declared.opened.OpenJudge.{OpenJudge}
use Rattle.command_line.specs.declared.events.OpenEvents.{OpenEvents}
use Rattle.command_line.specs.declared.events.OpenEvents.TheVariants.{Run, Trace}
use Rattle.command_line.specs.declared.judge.Subject.{Subject}

-- why a run of the recovery routine has no answer
abbrev pub missing_text : RunCause → List ℕ
missing_text (runs.Exit code) = codes "exit-" ++ decimal code
missing_text (runs.Trap trap) = codes "T" ++ decimal (trap_number trap)
missing_text runs.Running = codes "running"
missing_text runs.Answer = codes "answer"
missing_text runs.Events = codes "events"

-- why an image is bad: the routine has no answer, its answer isn't a right one, or `full-` and why there is none that is right, or that there
-- is no full image
abbrev pub cause_text : Cause → List ℕ
cause_text (causes.Missing cause) = missing_text cause
cause_text causes.Different = codes "different"
cause_text (causes.Full cause) = codes "full-" ++ missing_text cause
cause_text causes.Unmatched = codes "unmatched"

-- With `--whole` events that are whole are judged alone: a pass then also says that each hart of a run has exited with 0, and that each operation
-- which has begun has ended.
pub record HasOpened (command : JudgeCommand) (subject : Subject) (judge : OpenJudge) : Type 0 where
  pub command_is : judge.command ≡ command
  pub start_is : judge.start ≡ subject.start
  pub events_are : judge.events ≡ subject.events
  pub file_is : judge.recovery_file.items ≡ subject.routine.file.items
  pub recovery_is : judge.recovery ≡ subject.routine.program

pub record Opens (command : JudgeCommand) (subject : Subject) (outcome : Result OpenJudge Failure) : Type 0 where
  pub opens : MatchResult outcome (HasOpened command subject) (λ failure. ⊥)

-- what a run starts from is copied; memory for that may be refused
pub record CopiesStart (s : Setup) (outcome : Result Setup Failure) : Type 0 where
  pub copies : MatchResult outcome (λ start. start ≡ s) (λ failure. failure ≡ Memory)

-- it is kept beside the run where sequential runs are asked for
abbrev pub IsKeptFor : RightAnswers → Setup → Option Setup → Type 0
IsKeptFor rights.InTurn s start = start ≡ None
IsKeptFor rights.Overlapping s start = start ≡ None
IsKeptFor rights.Atomic s start = start ≡ Some s

pub record KeepsStart (right : RightAnswers) (s : Setup) (outcome : Result (Option Setup) Failure) : Type 0 where
  pub keeps : MatchResult outcome (IsKeptFor right s) (λ failure. failure ≡ Memory)

-- the events, what a run of them starts from, and the recovery routine
pub record IsSubject (start : Option Setup) (opened : OpenEvents) (routine : ReadRoutine) (subject : Subject) : Type 0 where
  pub start_is : subject.start ≡ start
  pub events_are : subject.events ≡ opened
  pub routine_is : subject.routine ≡ routine

pub record GivesSubject (start : Option Setup) (opened : OpenEvents) (routine : ReadRoutine) (outcome : Result Subject Failure) : Type 0 where
  pub gives : MatchResult outcome (IsSubject start opened routine) (λ failure. ⊥)

-- all files are read before the run is made
abbrev pub OpensSubjectOfRun : {F : Type 0} → Reads F → JudgeCommand → ScheduledRun → Step F Subject
OpensSubjectOfRun reads command run =
    First (ReadsRun reads run) (λ files.
    First (ReadsRoutine reads (string_bytes command.recovery)) (λ routine.
    First (Still (KeepsStart command.right (setup_of run files))) (λ start.
    First (Still (MakesRun (setup_of run files) files)) (λ made.
    First (Still (MeetsWhole run.whole made [])) (λ _.
    Still (GivesSubject start (Run made) routine))))))

abbrev pub OpensSubjectOfFile : {F : Type 0} → Reads F → JudgeCommand → TracedEvents → Step F Subject
OpensSubjectOfFile reads command events =
    First (OpensJudgedTrace reads events []) (λ opened.
    First (ReadsRoutine reads (string_bytes command.recovery)) (λ routine.
    Still (GivesSubject None opened routine)))

abbrev pub OpensSubject : {F : Type 0} → Reads F → JudgeCommand → EventSource → Step F Subject
OpensSubject reads command (sources.Run run) = OpensSubjectOfRun reads command run
OpensSubject reads command (sources.Trace events) = OpensSubjectOfFile reads command events

abbrev pub OpensJudge : {F : Type 0} → Reads F → JudgeCommand → Step F OpenJudge
OpensJudge reads command = First (OpensSubject reads command command.judged.source) (λ subject. Still (Opens command subject))

-- sequential runs start as the run did, and are asked of runs alone
abbrev pub IsStarted : OpenEvents → RightAnswers → Option Setup → Type 0
IsStarted (Run made) right start = (made.run.setup.harts ≤ 8) × (right ≡ rights.Atomic → start ≡ Some made.run.setup)
IsStarted (Trace trace) right start = right ≢ rights.Atomic

-- what is known of events that are to be judged
pub record AreReady (right : RightAnswers) (start : Option Setup) (opened : OpenEvents) : Type 0 where
  pub lines : HasTheirLines opened
  pub places : HasPlaces opened
  pub started : IsStarted opened right start

-- power cuts in recovery are asked for of a run alone
abbrev pub AreCutsIn : OpenEvents → Option MostCuts → Type 0
AreCutsIn (Run made) cuts = ⊤
AreCutsIn (Trace trace) cuts = cuts ≡ None

pub record IsReadyFor (command : JudgeCommand) (subject : Subject) : Type 0 where
  pub ready : AreReady command.right subject.start subject.events
  pub routine : IsProgramOf subject.routine.file.items subject.routine.program
  pub of_run : AreCutsIn subject.events command.cuts

pub record IsOpen (judge : OpenJudge) : Type 0 where
  pub within : IsJudgedWithin judge.command.judged
  pub ready : AreReady judge.command.right judge.start judge.events
  pub routine : IsProgramOf judge.recovery_file.items judge.recovery
  pub of_run : AreCutsIn judge.events judge.command.cuts
  pub cuts : IfSome judge.command.cuts AreFewCuts

-- what is told of a failing image, by the lines of which the routine loads bytes that it hasn't stored itself, where that is asked for
abbrev pub ExplainsFailing : OpenJudge → Verdict Cause → Result (Option ExplainedImage) Failure → Type 0
ExplainsFailing judge verdict =
    Explains (IsExplainedOf (IsLoaded judge.recovery judge.command.steps) judge.events) (events_of judge.events) (failing judge.command.judged.why verdict)

-- which operations may overlap
abbrev pub overlap_asked : RightAnswers → Overlap
overlap_asked rights.InTurn = overlaps.Never
overlap_asked rights.Overlapping = overlaps.Always
overlap_asked rights.Atomic = overlaps.BetweenHarts

-- whose full images give the right answers: with `--atomic` there is what a run starts from
abbrev pub right_asked : RightAnswers → Option Setup → RightBy
right_asked rights.Atomic (Some s) = sequential_runs s.program s.harts
right_asked rights.Atomic None = own_moments
right_asked rights.InTurn start = own_moments
right_asked rights.Overlapping start = own_moments

-- by what the run is judged
abbrev pub judgement_asked : OpenJudge → JudgementView
judgement_asked judge = record {
  routine = judge.recovery;
  steps = judge.command.steps;
  overlap = overlap_asked judge.command.right;
  right = right_asked judge.command.right judge.start;
}

-- a rule that says so, which has all sequential runs where these are needed
pub record IsRuleOf (judge : OpenJudge) (rule : Rule) : Type 0 where
  pub overlap : overlap_of rule ≡ overlap_asked judge.command.right
  pub right : right_by rule ≡ right_asked judge.command.right judge.start
  pub noted : AreNotedFor (medium_of judge.events) judge.recovery judge.command.steps rule

-- the verdict on what is asked for, or why there is none
abbrev pub IsVerdictOf : OpenJudge → Verdict Cause → Type 0
IsVerdictOf judge =
    HasJudgementOn (medium_of judge.events) (events_of judge.events) (judgement_asked judge) (row_asked judge.command.judged)

pub record JudgesOpen (judge : OpenJudge) (outcome : Result (Verdict Cause) Failure) : Type 0 where
  pub judges : MatchResult outcome (IsVerdictOf judge)
      (Tells (IsRefusal (overlap_asked judge.command.right) (events_of judge.events) (first_of judge.command.judged.moments)) failure_of_judge)

-- how far the judging of the moments that are asked for had come was told
abbrev pub TellsProgress : OpenJudge → Option (List ℕ) → Option (List ℕ) → Type 0
TellsProgress judge =
    Progresses (IsToldOn gets_line (medium_of judge.events) (events_of judge.events) (judgement_asked judge) (row_asked judge.command.judged) [])

-- the verdict, and what standard error was told on the way
pub record Watches {E : Type 0} (said : E → Option (List ℕ)) (judge : OpenJudge) (errors : E) (outcome : Result (Verdict Cause) Failure) (errors' : E) : Type 0 where
  pub judges : JudgesOpen judge outcome
  pub told : IsToldIf judge.command.judged.progress (TellsProgress judge (said errors) (said errors')) errors errors'

-- the line that says that no moment is judged
abbrev pub none_judged_line : List ℕ
none_judged_line = codes "no moment is judged: all lie before the first Begin" ++ line_end

-- the verdict is on no moment, as where all that are asked for lie before the first Begin
abbrev pub judges_none : {Cause : Type 0} → Verdict Cause → Bool
judges_none (verdicts.Pass zero images) = true
judges_none (verdicts.Pass (suc n) images) = false
judges_none (verdicts.Open moments images open') = false
judges_none (verdicts.Fail moment image cause of_too_many) = false
judges_none (verdicts.TooMany moment lines) = false
judges_none (verdicts.TooLong moment) = false

-- it is said of such a verdict, and of no other
abbrev pub note_if : Bool → List ℕ
note_if true = none_judged_line
note_if false = []

-- standard error gets that, or a front of it where it failed, and is left alone where there is nothing to say
pub record Notes {E : Type 0} (said : E → Option (List ℕ)) (is_none : Bool) (errors errors' : E) : Type 0 where
  pub front : AppendsFront (said errors) (said errors') (note_if is_none)
  pub alone : is_none ≡ false → errors' ≡ errors

-- that, behind an answer, which stands whether standard error fails or not
pub record Answers {E : Type 0} (said : E → Option (List ℕ)) (is_none : Bool) (answer : Answer) (errors : E) (outcome : Result Answer Failure) (errors' : E) : Type 0 where
  pub answers : outcome ≡ Ok answer
  pub notes : Notes said is_none errors errors'

-- the sequential runs of the program are known, all of them, or a bound that the search for them passes
abbrev pub AreRunsFrom : OpenJudge → Option Setup → Sequential → Type 0
AreRunsFrom judge None runs = ⊥
AreRunsFrom judge (Some s) runs = AreAllNoted (program_of s judge.recovery judge.command.steps) runs

abbrev pub AreRunsFor : OpenJudge → Sequential → Type 0
AreRunsFor judge runs = AreRunsFrom judge judge.start runs

-- they are found with `--atomic` alone, and memory for them may be refused
abbrev pub AreRunsAsked : OpenJudge → Option Sequential → Type 0
AreRunsAsked judge None = judge.command.right ≢ rights.Atomic
AreRunsAsked judge (Some runs) = (judge.command.right ≡ rights.Atomic) × AreRunsFor judge runs

pub record FindsRuns (judge : OpenJudge) (outcome : Result (Option Sequential) Failure) : Type 0 where
  pub finds : MatchResult outcome (AreRunsAsked judge) (λ failure. (judge.command.right ≡ rights.Atomic) × (failure ≡ Memory))
