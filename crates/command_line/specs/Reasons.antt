-- `--why`: what is told of a failing image.
use Rattle.std.specs.Prelude.{◌≡◌, ◌++◌, ◌<◌, ◌^◌, ℕ, Bool, true, false, List, [], Option, Some, None, Result, IfSome, MatchResult, codes}
use Rattle.std.specs.List.{flat_map}
use Rattle.crash_image.specs.declared.ImageFault.{ImageFault}
use Rattle.crash_test.specs.Origins.{origin_of}
use Rattle.crash_test.specs.Losses.{IsExplainedBy, IsExplainedOn}
use Rattle.crash_test.specs.declared.losses.ExplainedImage.{ExplainedImage}
use Rattle.crash_test.specs.Told.{LacksImage}
use Rattle.text.specs.declared.image_name.name.ImageName.{ImageName}
use Rattle.report.specs.LossesEvents.{event_text}
use Rattle.durability.specs.declared.cut.ToldCut.{ToldCut}
use Rattle.report.specs.LossesJson.{event_object, kept_object, lost_object, unread_object, why_json}
use Rattle.report.specs.Mends.{mend_line}
use Rattle.report.specs.MendsJson.{mend_object}
use Rattle.report.specs.Why.{kept_line, lost_line, unread_line, why_text}
use Rattle.report.specs.Places.{KnownOrigin, origin_in}
use Rattle.report.specs.Told.{events_in}
use Rattle.report.specs.declared.told.ToldEvents.{ToldEvents}
use Rattle.machine.specs.Grammar.{hart_steps}
use Rattle.machine.specs.declared.schedule.items.Item.{Item}
use Rattle.machine.specs.declared.run_trace.traced_event.TracedEvent.{TracedEvent}
use Rattle.store_trace.specs.declared.event.Event.{Event}
use Rattle.command_line.specs.Failures.{failure_of_image}
use Rattle.command_line.specs.Naming.{known_schedule}
use Rattle.command_line.specs.Steps.{Tells}
use Rattle.command_line.specs.Traces.{AreTold}
use Rattle.command_line.specs.declared.events.OpenEvents.{OpenEvents}
use Rattle.command_line.specs.declared.events.OpenEvents.TheVariants.{Run, Trace}
use Rattle.command_line.specs.declared.failure.Failure.{Failure}
use Rattle.command_line.specs.declared.made_run.MadeRun.{MadeRun}

-- what an image lacks and keeps, by lines that a recovery reads of it, and of a run how it comes about
abbrev pub IsExplainedOf : (List (List ℕ) → List ℕ → Type 0) → OpenEvents → ℕ → ImageName → ExplainedImage → Type 0
IsExplainedOf reads (Run made) moment image explained = IsExplainedBy reads made.run moment image explained
IsExplainedOf reads (Trace trace) moment image explained = IsExplainedOn reads trace.medium trace.ranked.trace.events moment image explained

-- so an image is explained, where one is
abbrev pub IsExplained : (ℕ → ImageName → ExplainedImage → Type 0) → Option (ℕ × ImageName) → Option ExplainedImage → Type 0
IsExplained is_so None told = told ≡ None
IsExplained is_so (Some image) None = ⊥
IsExplained is_so (Some image) (Some explained) = is_so image.0 image.1 explained

-- why it isn't, as of `explain`
abbrev pub IsUnexplained : List Event → Option (ℕ × ImageName) → ImageFault → Type 0
IsUnexplained events None fault = ⊥
IsUnexplained events (Some image) fault = LacksImage events image.0 image.1 fault

pub record ExplainsOne (is_so : ℕ → ImageName → ExplainedImage → Type 0) (events : List Event) (moment : ℕ) (image : ImageName) (outcome : Result ExplainedImage Failure) : Type 0 where
  pub explains : MatchResult outcome (is_so moment image) (Tells (LacksImage events moment image) failure_of_image)

pub record Explains (is_so : ℕ → ImageName → ExplainedImage → Type 0) (events : List Event) (image : Option (ℕ × ImageName)) (outcome : Result (Option ExplainedImage) Failure) : Type 0 where
  pub explains : MatchResult outcome (IsExplained is_so image) (Tells (IsUnexplained events image) failure_of_image)

-- the schedule that leaves an image has few enough steps for a text
abbrev pub HasFewSteps : ExplainedImage → Type 0
HasFewSteps explained = IfSome explained.schedule (λ schedule. hart_steps schedule < 2 ^ 32)

-- what is told of it as text or as JSON, by the line of the source at each pc
abbrev pub told_losses : Bool → (ℕ → KnownOrigin) → List TracedEvent → ExplainedImage → List ℕ
told_losses true origins traced explained =
    why_json (event_object origins traced) explained.told.read explained.told.unread explained.schedule
told_losses false origins traced explained =
    why_text (event_text origins traced) explained.told.read explained.told.unread explained.schedule

-- The same of a run that was found, whose own schedule is printed: the one that leaves the image is called `image`.
abbrev pub image_text : (ℕ → List ℕ) → ToldCut → ℕ → Option (List Item) → List ℕ
image_text event told unread schedule = flat_map (lost_line event) told.lost.items ++ (flat_map (kept_line event) told.kept.items
    ++ (flat_map (mend_line event) told.mends.items ++ (unread_line unread ++ known_schedule false (codes "image") schedule)))

abbrev pub image_json : (ℕ → List ℕ) → ToldCut → ℕ → Option (List Item) → List ℕ
image_json event told unread schedule = flat_map (lost_object [] event) told.lost.items ++ (flat_map (kept_object event) told.kept.items
    ++ (flat_map (mend_object event) told.mends.items ++ (unread_object unread ++ known_schedule true (codes "image") schedule)))

abbrev pub image_losses : Bool → (ℕ → KnownOrigin) → List TracedEvent → ExplainedImage → List ℕ
image_losses true origins traced explained =
    image_json (event_object origins traced) explained.told.read explained.told.unread explained.schedule
image_losses false origins traced explained =
    image_text (event_text origins traced) explained.told.read explained.told.unread explained.schedule

-- where there is such an image: by the names of the events' lines, and with where they were made
pub record IsToldBy (json : Bool) (opened : OpenEvents) (explained : ExplainedImage) (text : List ℕ) : Type 0 where
  pub told : ToldEvents
  pub are_told : AreTold opened told
  pub text_is : text ≡ told_losses json (origin_in told.places) (events_in told) explained

abbrev pub IsToldWhy : Bool → OpenEvents → Option ExplainedImage → List ℕ → Type 0
IsToldWhy json opened None text = text ≡ []
IsToldWhy json opened (Some explained) text = IsToldBy json opened explained text

-- of a run that was found, by what is known of the program's pcs
abbrev pub told_image : Bool → MadeRun → Option ExplainedImage → List ℕ
told_image json made None = []
told_image json made (Some explained) = image_losses json (origin_of made.file.items) made.run.traced explained
