-- What is known of a schedule while it follows the events of a recorded run, one after another.
use Rattle.std.specs.Prelude.{◌≡◌, ℕ, ◌+◌, ◌-◌, ◌<◌, ◌≤◌, ◌==◌, List, [], ◌∷◌, ◌++◌, Option, Some, None, if◌then◌else◌, drop, length, slice_index_or, take}
use Rattle.store_trace.specs.Schedule.{explained}
use Rattle.store_trace.specs.Stores.{stores}
use Rattle.store_trace.specs.declared.crash_model.step.PersistenceStep.{PersistenceStep}
use Rattle.store_trace.specs.History.{at_moment}
use Rattle.store_trace.specs.declared.event.Event.{Event}
use Rattle.store_trace.specs.declared.event.Event.TheVariants.{Store, Clean, Fence, Begin, End}
use Rattle.machine.specs.Steps.{all_steps}
use Rattle.machine.specs.declared.schedule.items.Step.{Step}
use Rattle.machine.specs.declared.schedule.items.Step.TheVariants.{Hart, Evict}
use Rattle.machine.specs.Replies.{trace_in}
use Rattle.machine.specs.Persisted.{persisted}
use Rattle.machine.specs.Evicting.{hart_steps}
use Rattle.machine.specs.Recorded.{RecordedView, Records}
use Rattle.machine.specs.Run.{Config, RunsTo}
use Rattle.witness.specs.Explains.{MakesStore, steps_by}

-- how many hart steps were taken, and those that are left
pub record StepsView : Type 0 where
  pub taken : ℕ
  pub left : List Step

-- the steps that were taken meanwhile stand at the end of others
pub record TakesSteps (old new : StepsView) (before after : List Step) : Type 0 where
  pub on : old.taken ≤ new.taken
  pub added : after ≡ before ++ take (new.taken - old.taken) old.left
  pub left : new.left ≡ drop (new.taken - old.taken) old.left

-- how many more stores of each line make the number that k gives it, after these steps
pub record AreDue (k : ℕ → ℕ) (p : List PersistenceStep) (due : List ℕ) : Type 0 where
  pub each : (l d : ℕ) → l < length due → slice_index_or due l d ≡ k l - stores l p

-- the line of an event that is its line's store of the number that k gives the line, after these steps
abbrev pub line_due : (ℕ → ℕ) → List PersistenceStep → Event → Option ℕ
line_due k p (Store hart line offset width value) = if (stores line p + 1) == k line then Some line else None
line_due k p (Clean hart line) = None
line_due k p (Fence hart) = None
line_due k p (Begin hart op) = None
line_due k p (End hart op) = None

-- the eviction of a line, if there is one
abbrev pub eviction_of : Option ℕ → List Step
eviction_of None = []
eviction_of (Some line) = Evict line ∷ []

-- each eviction comes when the hart step of the line's store of its number was made, after as many hart steps as `made` says
abbrev pub EvictInTime : RecordedView → ℕ → (ℕ → ℕ) → ℕ → List Step → Type 0
EvictInTime recorded moment k made [] = Unit {0}
EvictInTime recorded moment k made (Hart h ∷ steps) = EvictInTime recorded moment k (made + 1) steps
EvictInTime recorded moment k made (Evict line ∷ steps) =
    MakesStore recorded moment line (k line) made × EvictInTime recorded moment k made steps

-- from c the steps come to the recorded events up to the moment, with an eviction for each line that has its number
pub record FollowsFrom (c : Config) (recorded : RecordedView) (k : ℕ → ℕ) (moment made : ℕ) (steps : List Step) : Type 0 where
  pub made_is : made ≡ steps_by recorded.steps moment
  pub evictions : EvictInTime recorded moment k 0 steps
  pub trace : (d : Config) → RunsTo c steps d → trace_in d.common ≡ take moment recorded.trace
  pub persisted_is : (d : Config) → RunsTo c steps d →
      persisted d.common.history ≡ explained k (at_moment recorded.trace moment)

-- nothing has happened yet
pub record IsStart (c : Config) : Type 0 where
  pub history : c.common.history ≡ []
  pub trace : trace_in c.common ≡ []

-- the first hart steps of a recorded run, as many as `made`, with evictions that follow its events up to the moment
pub record Follows (recorded : RecordedView) (k : ℕ → ℕ) (moment made : ℕ) (steps : List Step) : Type 0 where
  pub hart_steps_are : hart_steps steps ≡ take made (hart_steps (all_steps recorded.items))
  pub follows : (c : Config) → IsStart c → Records c recorded → FollowsFrom c recorded k moment made steps
