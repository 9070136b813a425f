-- What the explanation of a cut of a run leaves.
use Rattle.std.proofs.Common.{ℕ, List}
use Rattle.crash_test.specs.Explaining.{ExplainsImage, ExplainsImageBy, ExplainsImageLeast, HasImage}
use Rattle.store_trace.specs.Cut.{number_in}
use Rattle.store_trace.specs.History.{at_moment}
use Rattle.witness.specs.Explains.{Explains, Leaves}
use Rattle.witness.specs.Least.{ExplainsLeast}
use Rattle.witness.specs.Needed.{needed}
use Rattle.text.specs.declared.image_name.name.ImageName.{ImageName}
use Rattle.machine.specs.Recorded.{RecordedView}
use Rattle.machine.specs.RunValues.{IsRecordOf, RunView, start_of}
use Rattle.machine.specs.Steps.{all_steps}
use Rattle.machine.specs.declared.schedule.items.Item.{Item}
use Rattle.machine.specs.declared.schedule.items.Step.{Step}

explains_by : (explains_cut : RecordedView → ℕ → List (ℕ × ℕ) → List Step → Type 0) (k : ℕ → ℕ) (run : RunView) (moment : ℕ) (name : ImageName)
    (recorded : RecordedView) (cut : List (ℕ × ℕ)) (explanation : List Item) → IsRecordOf run recorded → HasImage run.events moment name cut
    → explains_cut recorded moment cut (all_steps explanation) → Leaves (start_of run.setup) recorded moment cut k (all_steps explanation)
    → ExplainsImageBy explains_cut run moment name explanation
explains_by explains_cut k run moment name recorded cut explanation is has explains leaves = record {
  recorded = recorded;
  cut = cut;
  end = leaves.end;
  of_run = is;
  has_image = has;
  explains = explains;
  runs = leaves.runs;
  events = rw is.trace at leaves.trace;
  leaves = rw is.trace at leaves.left;
}

pub explains_image : (run : RunView) (moment : ℕ) (name : ImageName) (recorded : RecordedView) (cut : List (ℕ × ℕ)) (explanation : List Item)
    → IsRecordOf run recorded → HasImage run.events moment name cut → Explains recorded moment cut (all_steps explanation)
    → ExplainsImage run moment name explanation
explains_image run moment name recorded cut explanation is has explains =
    explains_by Explains (number_in cut) run moment name recorded cut explanation is has explains
    (explains.leaves run.setup.program run.setup.medium run.setup.harts is.records)

pub explains_image_least : (run : RunView) (moment : ℕ) (name : ImageName) (recorded : RecordedView) (cut : List (ℕ × ℕ)) (explanation : List Item)
    → IsRecordOf run recorded → HasImage run.events moment name cut → ExplainsLeast recorded moment cut (all_steps explanation)
    → ExplainsImageLeast run moment name explanation
explains_image_least run moment name recorded cut explanation is has explains =
    explains_by ExplainsLeast (needed cut (at_moment recorded.trace moment)) run moment name recorded cut explanation is has explains
    (explains.leaves run.setup.program run.setup.medium run.setup.harts is.records)
