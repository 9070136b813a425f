-- What `waste` comes to.
use Rattle.std.specs.Prelude.{◌≡◌, ◌↔◌, ℕ, Bool, true, false, List, Option, Result, MatchResult, length}
use Rattle.std.specs.Global.{Vec}
use Rattle.std.specs.List.{zip}
use Rattle.arguments.specs.declared.asked.ReportCommand.{ReportCommand}
use Rattle.durability.specs.Found.{AreNeedless, with_reasons}
use Rattle.durability.specs.declared.redundant.reason.Needless.{Needless}
use Rattle.durability.specs.declared.redundant.reason.Reason.{Reason}
use Rattle.report.specs.Places.{KnownOrigin, origin_in}
use Rattle.report.specs.RedundantJson.{IsWasteJson}
use Rattle.report.specs.Uses.{Judged}
use Rattle.report.specs.Waste.{IsWasteText}
use Rattle.report.specs.Told.{events_in}
use Rattle.report.specs.declared.told.ToldEvents.{ToldEvents}
use Rattle.store_trace.specs.declared.event.Event.{Event}
use Rattle.command_line.specs.Noting.{IsNoted, NotesEvents, are_wanted}
use Rattle.command_line.specs.Steps.{First, Reads, Step, Still}
use Rattle.command_line.specs.Traces.{AreTold, OpensEvents, events_of}
use Rattle.command_line.specs.declared.answer.Answer.{Answer}
use Rattle.command_line.specs.declared.answer.NotedAnswer.{NotedAnswer}
use Rattle.command_line.specs.declared.events.OpenEvents.{OpenEvents}
use Rattle.command_line.specs.declared.failure.Failure.{Failure}
use Rattle.command_line.specs.declared.failure.Failure.TheVariants.{Memory}

-- for each of these events the reason for which it is needless, where it is
pub record AreReasons (events : List Event) (reasons : List (Option Reason)) : Type 0 where
  pub size : length reasons ≡ length events
  pub needless : (found : List Needless) → AreNeedless events found ↔ (found ≡ with_reasons 1 reasons)

-- those of these events; memory for them may be refused
pub record FindsNeedless (events : List Event) (outcome : Result (List (Option Reason)) Failure) : Type 0 where
  pub finds : MatchResult outcome (AreReasons events) (λ failure. failure ≡ Memory)

-- what is told of events with their reasons, as text or as JSON, by what is known of each pc, and by the place words of each line of a trace file
abbrev pub IsTold : Bool → (ℕ → KnownOrigin) → Option (Vec (Vec ℕ)) → List Judged → List ℕ → Type 0
IsTold true origins lines all text = IsWasteJson origins lines all text
IsTold false origins lines all text = IsWasteText origins lines all text

-- it is printed, with status 0
pub record IsWasteAnswer (json : Bool) (opened : OpenEvents) (reasons : List (Option Reason)) (answer : Answer) : Type 0 where
  pub told : ToldEvents
  pub are_told : AreTold opened told
  pub text : IsTold json (origin_in told.places) told.lines (zip (events_in told) reasons) answer.text.items
  pub status : answer.status ≡ 0

-- memory for it may be refused
pub record PrintsWaste (json : Bool) (opened : OpenEvents) (reasons : List (Option Reason)) (outcome : Result Answer Failure) : Type 0 where
  pub prints : MatchResult outcome (IsWasteAnswer json opened reasons) (λ failure. failure ≡ Memory)

abbrev pub WasteFile : {F : Type 0} → Reads F → ReportCommand → Step F NotedAnswer
WasteFile reads command =
    First (OpensEvents reads command.source) (λ opened.
    First (Still (NotesEvents (are_wanted command.source command.quiet) opened)) (λ notes.
    First (Still (FindsNeedless (events_of opened))) (λ reasons.
    First (Still (PrintsWaste command.json opened reasons)) (λ answer.
    Still (IsNoted notes answer)))))
