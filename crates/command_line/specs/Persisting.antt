-- What `unpersisted` comes to.
use Rattle.std.specs.Prelude.{◌≡◌, ◌==◌, ℕ, Bool, true, false, List, Result, MatchResult, length, map, if◌then◌else◌}
use Rattle.arguments.specs.declared.asked.ReportCommand.{ReportCommand}
use Rattle.durability.specs.Unpersisted.{AreEndLosses, AreFirstLosses, IsUnpersistedOutside}
use Rattle.durability.specs.declared.cut.Lost.{Lost}
use Rattle.durability.specs.declared.ends.EndLoss.{EndLoss}
use Rattle.durability.specs.declared.ends.Unpersisted.{Unpersisted}
use Rattle.machine.specs.declared.run_trace.traced_event.TracedEvent.{TracedEvent}
use Rattle.report.specs.LossesEvents.{event_text}
use Rattle.report.specs.LossesJson.{event_object, unpersisted_json}
use Rattle.report.specs.Places.{KnownOrigin, origin_in}
use Rattle.report.specs.Unpersisted.{count_of, unpersisted_text}
use Rattle.report.specs.Told.{events_in}
use Rattle.report.specs.declared.told.ToldEvents.{ToldEvents}
use Rattle.store_trace.specs.declared.event.Event.{Event}
use Rattle.command_line.specs.Noting.{IsNoted, NotesEvents, are_wanted}
use Rattle.command_line.specs.Steps.{First, Reads, Step, Still}
use Rattle.command_line.specs.Traces.{AreTold, OpensEvents, events_of, name_in}
use Rattle.command_line.specs.declared.answer.Answer.{Answer}
use Rattle.command_line.specs.declared.answer.NotedAnswer.{NotedAnswer}
use Rattle.command_line.specs.declared.events.OpenEvents.{OpenEvents}
use Rattle.command_line.specs.declared.failure.Failure.{Failure}
use Rattle.command_line.specs.declared.failure.Failure.TheVariants.{Memory}

-- of these events what each End leaves, and what is left at the last moment of the stores outside operations
pub record AreUnpersisted (events : List Event) (found : Unpersisted) : Type 0 where
  pub ends : AreEndLosses events found.ends.items
  pub outside : AreFirstLosses events (length events) (IsUnpersistedOutside events) found.outside.items

-- the stores of these events that weren't durable in time; memory for them may be refused
pub record Finds (events : List Event) (outcome : Result Unpersisted Failure) : Type 0 where
  pub finds : MatchResult outcome (AreUnpersisted events) (λ failure. failure ≡ Memory)

-- a loss with the name of its line
abbrev pub named_loss : (ℕ → ℕ) → Lost → Lost
named_loss name lost = record lost { line = name lost.line }

abbrev pub named_end : (ℕ → ℕ) → EndLoss → EndLoss
named_end name loss = record loss { lost = named_loss name loss.lost }

pub record AreNamed (name : ℕ → ℕ) (found named : Unpersisted) : Type 0 where
  pub ends : named.ends.items ≡ map (named_end name) found.ends.items
  pub outside : named.outside.items ≡ map (named_loss name) found.outside.items

-- 0 where there are none, else 1
abbrev pub status_of : Unpersisted → ℕ
status_of told = if count_of told == 0 then 0 else 1

-- as text or as JSON, by what is known of each pc
abbrev pub told_stores : Bool → (ℕ → KnownOrigin) → List TracedEvent → Unpersisted → List ℕ
told_stores true origins traced told = unpersisted_json (event_object origins traced) told
told_stores false origins traced told = unpersisted_text (event_text origins traced) told

-- they are told by the names of their lines, and with where their events were made
pub record IsStoresAnswer (json : Bool) (opened : OpenEvents) (found : Unpersisted) (answer : Answer) : Type 0 where
  pub told : ToldEvents
  pub named : Unpersisted
  pub are_told : AreTold opened told
  pub are_named : AreNamed (name_in opened) found named
  pub text : answer.text.items ≡ told_stores json (origin_in told.places) (events_in told) named
  pub status : answer.status ≡ status_of named

-- that is printed; memory for it may be refused
pub record PrintsStores (json : Bool) (opened : OpenEvents) (found : Unpersisted) (outcome : Result Answer Failure) : Type 0 where
  pub prints : MatchResult outcome (IsStoresAnswer json opened found) (λ failure. failure ≡ Memory)

abbrev pub UnpersistedFile : {F : Type 0} → Reads F → ReportCommand → Step F NotedAnswer
UnpersistedFile reads command =
    First (OpensEvents reads command.source) (λ opened.
    First (Still (NotesEvents (are_wanted command.source command.quiet) opened)) (λ notes.
    First (Still (Finds (events_of opened))) (λ found.
    First (Still (PrintsStores command.json opened found)) (λ answer.
    Still (IsNoted notes answer)))))
