-- The schedule that leaves one crash image of a moment of a run.
use Rattle.std.specs.Prelude.{◌≡◌, ℕ, ◌≤◌, List, length, take}
use Rattle.clean_fence.specs.Represents.{AreAmong}
use Rattle.crash_image.specs.Named.{IsNamed}
use Rattle.store_trace.specs.Cut.{number_in}
use Rattle.store_trace.specs.Image.{image}
use Rattle.witness.specs.Explains.{Explains}
use Rattle.witness.specs.Least.{ExplainsLeast}
use Rattle.text.specs.declared.image_name.name.ImageName.{ImageName}
use Rattle.machine.specs.Represents.{MachineView, Represents}
use Rattle.machine.specs.Run.{Config, RunsTo}
use Rattle.machine.specs.Recorded.{RecordedView}
use Rattle.machine.specs.RunValues.{IsRecordOf, RunView, start_of}
use Rattle.machine.specs.Steps.{all_steps}
use Rattle.machine.specs.declared.schedule.items.Item.{Item}
use Rattle.machine.specs.declared.schedule.items.Step.{Step}
use Rattle.machine.specs.Persisted.{touched}
use Rattle.machine.specs.Replies.{trace_in}
use Rattle.store_trace.specs.History.{at_moment}
use Rattle.store_trace.specs.declared.event.Event.{Event}

-- the moment is there, and the name is that of this cut of it
pub record HasImage (trace : List Event) (moment : ℕ) (name : ImageName) (cut : List (ℕ × ℕ)) : Type 0 where
  pub within : moment ≤ length trace
  pub named : IsNamed (at_moment trace moment) name cut

-- Where a run from the start has come to `end`, and the cache had room for every line that was loaded or stored, a power
-- cut leaves these lines.
abbrev pub LeavesAt : Config → List (List ℕ) → Type 0
LeavesAt end left = (machine : MachineView) (lines : List ℕ) → Represents machine end → length lines ≤ machine.shared.cache.cache.capacity
    → AreAmong (touched end.common.history) lines → machine.shared.cache.lines ≡ left

-- An explanation of an image of a run: a schedule that explains the cut of its name in one of two senses, so that the run by it makes
-- the events before the moment and no others, and a power cut at its end leaves the image.
pub record ExplainsImageBy (explains_cut : RecordedView → ℕ → List (ℕ × ℕ) → List Step → Type 0) (run : RunView) (moment : ℕ) (name : ImageName)
    (explanation : List Item) : Type 0 where
  pub recorded : RecordedView
  pub cut : List (ℕ × ℕ)
  pub end : Config
  pub of_run : IsRecordOf run recorded
  pub has_image : HasImage run.events moment name cut
  pub explains : explains_cut recorded moment cut (all_steps explanation)
  pub runs : RunsTo (start_of run.setup) (all_steps explanation) end
  pub events : trace_in end.common ≡ take moment run.events
  pub leaves : LeavesAt end (image run.setup.medium (number_in cut) (at_moment run.events moment))

-- by an eviction for each line whose number in the cut is at least 1
abbrev pub ExplainsImage : RunView → ℕ → ImageName → List Item → Type 0
ExplainsImage run moment name explanation = ExplainsImageBy Explains run moment name explanation

-- by the needed evictions alone
abbrev pub ExplainsImageLeast : RunView → ℕ → ImageName → List Item → Type 0
ExplainsImageLeast run moment name explanation = ExplainsImageBy ExplainsLeast run moment name explanation
