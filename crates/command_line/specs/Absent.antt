-- What is told of a moment, or of an image, that isn't there: how many events or images there are in its place.
use Rattle.std.specs.Prelude.{◌≡◌, ◌⊎◌, ◌==◌, ◌<◌, ◌++◌, ℕ, List, [], Option, Some, None, Result, MatchResult, codes, decimal, if◌then◌else◌, length}
use Rattle.arguments.specs.declared.asked.Command.{Command}
use Rattle.arguments.specs.declared.asked.Command.TheVariants as asked
use Rattle.arguments.specs.declared.asked.EventSource.{EventSource}
use Rattle.arguments.specs.declared.asked.EventSource.TheVariants as sources
use Rattle.arguments.specs.declared.asked.ScheduledRun.{ScheduledRun}
use Rattle.arguments.specs.declared.asked.TracedEvents.{TracedEvents}
use Rattle.arguments.specs.declared.codes.table.Meaning.{Meaning}
use Rattle.crash_test.specs.Images.{CountsImages}
use Rattle.store_trace.specs.declared.event.Event.{Event}
use Rattle.text.specs.Texts.{image_text}
use Rattle.text.specs.declared.image_name.name.ImageName.{ImageName}
use Rattle.command_line.specs.Failures.{refusal_code}
use Rattle.command_line.specs.Meanings.{IsRowOf, behind_colon}
use Rattle.command_line.specs.Reports.{line_end}
use Rattle.command_line.specs.Steps.{First, Reads, Step, Still}
use Rattle.command_line.specs.Traces.{OpensScheduled, OpensTraceFile, events_of}
use Rattle.command_line.specs.Verdicts.{first_of}
use Rattle.command_line.specs.declared.events.OpenEvents.{OpenEvents}
use Rattle.command_line.specs.declared.events.OpenEvents.TheVariants.{Run, Trace}
use Rattle.command_line.specs.declared.failure.Failure.{Failure}
use Rattle.command_line.specs.declared.failure.Failure.TheVariants.{Memory}
use Rattle.command_line.specs.declared.failure.Refusal.{Refusal}
use Rattle.command_line.specs.declared.failure.Refusal.TheVariants.{Moment, Image}

-- the end of a noun of which there are so many
abbrev pub plural : ℕ → List ℕ
plural count = if count == 1 then [] else codes "s"

-- what has the events
abbrev pub owner : OpenEvents → List ℕ
owner (Run made) = codes "the run"
owner (Trace trace) = codes "the trace"

-- `M (the run has N events)`
abbrev pub moment_text : ℕ → OpenEvents → List ℕ
moment_text moment opened = decimal moment ++ (codes " (" ++ (owner opened ++ (codes " has "
    ++ (decimal (length (events_of opened)) ++ (codes " event" ++ (plural (length (events_of opened)) ++ codes ")"))))))

-- `IMAGE (moment M has N images)`; of over 65,536 none is named by its number
abbrev pub count_text : Option ℕ → List ℕ
count_text None = codes "over 65536 images: lines name them)"
count_text (Some images) = decimal images ++ (codes " image" ++ (plural images ++ codes ")"))

abbrev pub images_text : ℕ → ImageName → Option ℕ → List ℕ
images_text moment image count = image_text image ++ (codes " (moment " ++ (decimal moment ++ (codes " has " ++ count_text count)))

pub record HasCount (events : List Event) (moment : ℕ) (image : ImageName) (text : List ℕ) : Type 0 where
  pub count : Option ℕ
  pub counted : CountsImages events moment count
  pub text_is : text ≡ images_text moment image count

abbrev pub IsImageTold : List Event → ℕ → ImageName → List ℕ → Type 0
IsImageTold events moment image text = HasCount events moment image text ⊎ ((length events < moment) × (text ≡ []))

-- what is told of the refusal beside its meaning
abbrev pub IsCounted : Refusal → ℕ → Option ImageName → OpenEvents → List ℕ → Type 0
IsCounted Moment moment image opened text = text ≡ moment_text moment opened
IsCounted Image moment (Some image) opened text = IsImageTold (events_of opened) moment image text
IsCounted refusal moment image opened text = text ≡ []

-- the meaning by the table, if it has one, and behind a colon what is found
abbrev pub meaning_text : Option Meaning → List ℕ → List ℕ
meaning_text None found = []
meaning_text (Some row) found = row.meaning.now ++ (behind_colon found ++ line_end)

pub record HasMeaning (refusal : Refusal) (found text : List ℕ) : Type 0 where
  pub row : Option Meaning
  pub is_row : IsRowOf (refusal_code refusal) row
  pub text_is : text ≡ meaning_text row found

pub record SaysMeaning (refusal : Refusal) (found : List ℕ) (outcome : Result (List ℕ) Failure) : Type 0 where
  pub says : MatchResult outcome (HasMeaning refusal found) (λ failure. failure ≡ Memory)

pub record TellsCount (refusal : Refusal) (moment : ℕ) (image : Option ImageName) (opened : OpenEvents) (text : List ℕ) : Type 0 where
  pub found : List ℕ
  pub counted : IsCounted refusal moment image opened found
  pub means : HasMeaning refusal found text

pub record SaysCounted (refusal : Refusal) (moment : ℕ) (image : Option ImageName) (opened : OpenEvents) (outcome : Result (List ℕ) Failure) : Type 0 where
  pub says : MatchResult outcome (TellsCount refusal moment image opened) (λ failure. failure ≡ Memory)

-- by the events that a command tells of, which are read or made once more
abbrev pub SaysOfRun : {F : Type 0} → Reads F → Refusal → ℕ → Option ImageName → ScheduledRun → Step F (List ℕ)
SaysOfRun reads refusal moment image run = First (OpensScheduled reads run) (λ opened. Still (SaysCounted refusal moment image opened))

abbrev pub SaysOfTrace : {F : Type 0} → Reads F → Refusal → ℕ → Option ImageName → TracedEvents → Step F (List ℕ)
SaysOfTrace reads refusal moment image events = First (OpensTraceFile reads events) (λ opened. Still (SaysCounted refusal moment image opened))

abbrev pub SaysOfSource : {F : Type 0} → Reads F → Refusal → ℕ → Option ImageName → EventSource → Step F (List ℕ)
SaysOfSource reads refusal moment image (sources.Run run) = SaysOfRun reads refusal moment image run
SaysOfSource reads refusal moment image (sources.Trace events) = SaysOfTrace reads refusal moment image events

-- of the moment that a command asks for, which is the first one that is to be judged, and of the image
abbrev pub SaysAbsent : {F : Type 0} → Reads F → Refusal → Command → Step F (List ℕ)
SaysAbsent reads refusal (asked.Images command) = SaysOfSource reads refusal command.moment None command.source
SaysAbsent reads refusal (asked.Image command) = SaysOfSource reads refusal command.moment (Some command.image) command.source
SaysAbsent reads refusal (asked.Picture command) = SaysOfSource reads refusal command.moment command.image command.source
SaysAbsent reads refusal (asked.Explain command) = SaysOfRun reads refusal command.moment (Some command.image) command.run
SaysAbsent reads refusal (asked.Check command) = SaysOfSource reads refusal (first_of command.judged.moments) None command.judged.source
SaysAbsent reads refusal (asked.Judge command) = SaysOfSource reads refusal (first_of command.judged.moments) None command.judged.source
SaysAbsent reads refusal (asked.Ask command) = SaysOfTrace reads refusal (first_of command.moments) None command.events
SaysAbsent reads refusal command = Still (SaysMeaning refusal [])
