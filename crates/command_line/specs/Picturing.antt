-- What `picture` comes to.
use Rattle.std.specs.Prelude.{ℕ, List, [], Option, Result, MatchResult, option_map, string_bytes}
use Rattle.arguments.specs.declared.asked.PictureCommand.{PictureCommand}
use Rattle.text.specs.declared.image_name.name.ImageName.{ImageName}
use Rattle.report.specs.Picturing.{HasImageAt, LacksPicture}
use Rattle.store_trace.specs.declared.event.Event.{Event}
use Rattle.command_line.specs.Failures.{failure_of_image}
use Rattle.command_line.specs.ImageFiles.{ranked_name}
use Rattle.command_line.specs.Steps.{First, Prints, Reads, Step, Still, Tells, Writes, WritesFile}
use Rattle.command_line.specs.Traces.{OpensEvents, events_of}
use Rattle.command_line.specs.declared.answer.Answer.{Answer}
use Rattle.command_line.specs.declared.events.OpenEvents.{OpenEvents}
use Rattle.command_line.specs.declared.events.OpenEvents.TheVariants.{Run, Trace}
use Rattle.command_line.specs.declared.failure.Failure.{Failure}

-- the name of an image that is shown, where one is, as events name its lines
abbrev pub ranked_if : OpenEvents → Option ImageName → Option ImageName
ranked_if (Run made) image = image
ranked_if (Trace trace) image = option_map (ranked_name trace.ranked.names.items) image

-- they have this moment, with an image of this name there where one is named, or not
pub record HasImage {A : Type 0} (events : List Event) (moment : ℕ) (image : Option ImageName) (outcome : Result A Failure) : Type 0 where
  pub has : MatchResult outcome (λ _. HasImageAt events moment image) (Tells (LacksPicture events moment image) failure_of_image)

-- a picture of these events at this moment, which they have, or why there is none; tests show what is drawn
pub record DrawsPicture (events : List Event) (moment : ℕ) (image : Option ImageName) (outcome : Result (List ℕ) Failure) : Type 0 where
  pub draws : MatchResult outcome (λ picture. HasImageAt events moment image) (Tells (LacksPicture events moment image) failure_of_image)

abbrev pub PicturesFile : {F : Type 0} → Reads F → Writes F → PictureCommand → Step F Answer
PicturesFile reads writes command =
    First (OpensEvents reads command.source) (λ opened.
    First (Still (DrawsPicture (events_of opened) command.moment (ranked_if opened command.image))) (λ picture.
    First (WritesFile writes (string_bytes command.picture) picture) (λ _.
    Still (Prints [] 0))))
