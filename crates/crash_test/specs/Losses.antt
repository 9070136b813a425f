-- A crash image: what it lacks and keeps of the lines that its recovery reads, and of a run how the run comes to it.
use Rattle.std.specs.Prelude.{◌≡◌, ℕ, List, None, Some}
use Rattle.crash_test.specs.Explaining.{ExplainsImage}
use Rattle.crash_test.specs.declared.losses.ExplainedImage.{ExplainedImage}
use Rattle.crash_test.specs.Told.{IsToldBy}
use Rattle.text.specs.declared.image_name.name.ImageName.{ImageName}
use Rattle.machine.specs.RunValues.{RunView}
use Rattle.machine.specs.declared.schedule.items.Item.{Item}
use Rattle.store_trace.specs.declared.event.Event.{Event}

-- what the image of this name of events lacks and keeps, by lines that a recovery reads of it; no schedule is known
pub record IsExplainedOn (reads : List (List ℕ) → List ℕ → Type 0) (start : List (List ℕ)) (events : List Event) (moment : ℕ) (name : ImageName)
    (explained : ExplainedImage) : Type 0 where
  pub told : IsToldBy reads start events moment name explained.told
  pub alone : explained.schedule ≡ None

-- the same of a run, with a schedule that leaves the image
pub record IsExplainedBy (reads : List (List ℕ) → List ℕ → Type 0) (run : RunView) (moment : ℕ) (name : ImageName)
    (explained : ExplainedImage) : Type 0 where
  pub told : IsToldBy reads run.setup.medium run.events moment name explained.told
  pub schedule : List Item
  pub schedule_is : explained.schedule ≡ Some schedule
  pub explains : ExplainsImage run moment name schedule
