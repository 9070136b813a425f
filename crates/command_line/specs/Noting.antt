-- What `check`, `judge`, `unpersisted` and `waste` note on standard error of events that have to be whole.
use Rattle.std.specs.Prelude.{◌≡◌, ◌⊎◌, ◌++◌, ◌&&◌, ℕ, Bool, true, false, not, List, [], Option, Some, None, Result, Ok, Err, MatchResult, codes}
use Rattle.std.specs.Global.{Vec}
use Rattle.arguments.specs.declared.asked.EventSource.{EventSource}
use Rattle.arguments.specs.declared.asked.EventSource.TheVariants as sources
use Rattle.arguments.specs.declared.asked.JudgedRun.{JudgedRun}
use Rattle.crash_test.specs.Origins.{origin_of}
use Rattle.crash_test.specs.Programs.{IsLoadFault, IsObjectOf, file_kind}
use Rattle.debugger.specs.StreamFailures.{AppendsFront}
use Rattle.nova_log.specs.Volumes.{volume_of}
use Rattle.nova_log.specs.declared.fault.VolumeFault.{VolumeFault}
use Rattle.nova_log.specs.declared.volume.entry.Entry.{Entry}
use Rattle.program.specs.Sections.{Sections}
use Rattle.report.specs.Notes.{AreNotes}
use Rattle.command_line.specs.Failures.{failure_of_program}
use Rattle.command_line.specs.Reports.{line_end}
use Rattle.command_line.specs.Steps.{First, Step, Still, Tells}
use Rattle.command_line.specs.Traces.{medium_of}
use Rattle.command_line.specs.declared.answer.Answer.{Answer}
use Rattle.command_line.specs.declared.answer.NotedAnswer.{NotedAnswer}
use Rattle.command_line.specs.declared.events.OpenEvents.{OpenEvents}
use Rattle.command_line.specs.declared.events.OpenEvents.TheVariants.{Run, Trace}
use Rattle.command_line.specs.declared.failure.Failure.{Failure}
use Rattle.command_line.specs.declared.failure.Failure.TheVariants.{Memory}
use Rattle.command_line.specs.declared.made_run.MadeRun.{MadeRun}
use Rattle.command_line.specs.declared.opened.OpenCheck.{OpenCheck}
use Rattle.command_line.specs.declared.opened.OpenJudge.{OpenJudge}

-- the line has `--whole`
abbrev pub is_whole : EventSource → Bool
is_whole (sources.Run run) = run.whole
is_whole (sources.Trace events) = events.whole

-- notes are wanted with `--whole`, and left out with `--quiet`
abbrev pub are_wanted : EventSource → Bool → Bool
are_wanted source quiet = is_whole source && not quiet

abbrev pub are_wanted_of : JudgedRun → Bool
are_wanted_of judged = are_wanted judged.source judged.quiet

-- those on a run, by the text of its program's object
pub record AreNotesOn (made : MadeRun) (notes : Vec ℕ) : Type 0 where
  pub object : Sections
  pub is_object : IsObjectOf (file_kind made.file.items) made.file.items object
  pub are_notes : AreNotes object.text (origin_of made.file.items) made.run.traced notes.items

-- memory for them may be refused; a file that gives no object has a fault
pub record NotesRun (made : MadeRun) (outcome : Result (Vec ℕ) Failure) : Type 0 where
  pub notes : MatchResult outcome (AreNotesOn made) (λ failure. (failure ≡ Memory) ⊎ Tells (IsLoadFault made.file.items) failure_of_program failure)

-- nothing is noted
pub record NotesNothing (outcome : Result (Vec ℕ) Failure) : Type 0 where
  pub nothing : MatchResult outcome (λ notes. notes.items ≡ []) (λ failure. ⊥)

-- the events of a trace file have no instructions, and so no notes
abbrev pub NotesWanted : OpenEvents → Result (Vec ℕ) Failure → Type 0
NotesWanted (Run made) outcome = NotesRun made outcome
NotesWanted (Trace trace) outcome = NotesNothing outcome

abbrev pub NotesIf : Bool → OpenEvents → Result (Vec ℕ) Failure → Type 0
NotesIf false opened outcome = NotesNothing outcome
NotesIf true opened outcome = NotesWanted opened outcome

-- the notes on events, where they are wanted
pub record NotesEvents (wanted : Bool) (opened : OpenEvents) (outcome : Result (Vec ℕ) Failure) : Type 0 where
  pub notes : NotesIf wanted opened outcome

-- the line names the medium that the events start from
abbrev pub is_named : {X : Type 0} → Option X → Bool
is_named None = false
is_named (Some name) = true

abbrev pub names_medium : EventSource → Bool
names_medium (sources.Run run) = is_named run.machine.medium
names_medium (sources.Trace events) = is_named events.medium

-- recovery finds a volume
abbrev pub is_found : Result (List (List Entry)) VolumeFault → Bool
is_found (Ok logs) = true
is_found (Err fault) = false

-- the medium is no volume, and the line names none
abbrev pub lacks_volume : EventSource → List (List ℕ) → Bool
lacks_volume source medium = not (names_medium source) && not (is_found (volume_of medium))

-- that is said where notes are wanted; memory to find a volume may be refused
pub record SaysLacking (wanted : Bool) (source : EventSource) (medium : List (List ℕ)) (outcome : Result Bool Failure) : Type 0 where
  pub says : MatchResult outcome (λ lacks. lacks ≡ (wanted && lacks_volume source medium)) (λ failure. failure ≡ Memory)

abbrev pub volume_note : Bool → List ℕ
volume_note false = []
volume_note true = codes "note: the medium at the start is no volume: was --medium left out?" ++ line_end

-- it stands behind other notes; memory for it may be refused
pub record AddsVolumeNote (notes : Vec ℕ) (lacks : Bool) (outcome : Result (Vec ℕ) Failure) : Type 0 where
  pub adds : MatchResult outcome (λ all. all.items ≡ notes.items ++ volume_note lacks) (λ failure. failure ≡ Memory)

-- the notes of a check: those on the events, and behind them whether the start is no volume
pub record AreNotesOfCheck (check : OpenCheck) (notes : Vec ℕ) : Type 0 where
  pub on_events : Vec ℕ
  pub are_notes : NotesEvents (are_wanted_of check.command.judged) check.events (Ok on_events)
  pub notes_are : notes.items ≡ on_events.items
      ++ volume_note (are_wanted_of check.command.judged && lacks_volume check.command.judged.source (medium_of check.events))

pub record NotesCheck (check : OpenCheck) (outcome : Result (Vec ℕ) Failure) : Type 0 where
  pub notes : MatchResult outcome (AreNotesOfCheck check)
      (λ failure. (failure ≡ Memory) ⊎ NotesEvents (are_wanted_of check.command.judged) check.events (Err failure))

-- the notes on the events of a judgement
abbrev pub NotesJudge : OpenJudge → Result (Vec ℕ) Failure → Type 0
NotesJudge judge = NotesEvents (are_wanted_of judge.command.judged) judge.events

-- standard error gets notes, or a front of them where it failed, and is left alone where there are none
pub record GetsNotes {E : Type 0} (said : E → Option (List ℕ)) (notes : List ℕ) (errors errors' : E) : Type 0 where
  pub front : AppendsFront (said errors) (said errors') notes
  pub alone : notes ≡ [] → errors' ≡ errors

-- and whatever comes of that is done
pub record WritesNotes {E : Type 0} (said : E → Option (List ℕ)) (notes : List ℕ) (errors : E) (outcome : Result (Unit {0}) Failure) (errors' : E) : Type 0 where
  pub goes_on : outcome ≡ Ok tt
  pub gets : GetsNotes said notes errors errors'

-- events are judged once standard error has got the notes on them
abbrev pub JudgesNoted : {E : Type 0} → (E → Option (List ℕ)) → (Result (Vec ℕ) Failure → Type 0) → Step E Answer → Step E Answer
JudgesNoted said makes judges = First (Still makes) (λ notes. First (WritesNotes said notes.items) (λ _. judges))

-- an answer with notes
pub record IsNoted (notes : Vec ℕ) (answer : Answer) (outcome : Result NotedAnswer Failure) : Type 0 where
  pub noted : MatchResult outcome (λ noted. (noted.notes ≡ notes) × (noted.answer ≡ answer)) (λ failure. ⊥)
