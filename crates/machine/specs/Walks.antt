-- Walks through a schedule, by what it is that makes the steps: `makes` says what these steps make of it, and `halts` how it halts at a step.
use Rattle.std.specs.Prelude.{List}
use Rattle.machine.specs.Places.{IsStepAt, Leads}
use Rattle.machine.specs.declared.schedule.items.Item.{Item}
use Rattle.machine.specs.declared.schedule.items.Step.{Step}
use Rattle.machine.specs.declared.schedule.place.Place.{Place}

-- the steps between two places lead from the old one to the new one
pub record Comes {S : Type 0} (makes : S → List Step → S → Type 0) (old new : S) (items : List Item) (from place : Place) : Type 0 where
  pub steps : List Step
  pub leads : Leads items from place steps
  pub made : makes old steps new

-- the steps up to a place are made, and it halts at the step there
pub record HaltsAt {S H : Type 0} (makes : S → List Step → S → Type 0) (halts : S → Step → S → H → Type 0) (old new : S) (items : List Item)
    (from place : Place) (halt : H) : Type 0 where
  pub middle : S
  pub step : Step
  pub before : Comes makes old middle items from place
  pub here : IsStepAt items place step
  pub halted : halts middle step new halt
