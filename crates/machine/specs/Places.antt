-- The steps on both sides of a place in a schedule.
use Rattle.std.specs.Prelude.{◌≡◌, ◌≤◌, ◌++◌, ℕ, suc, List, [], Option, Some, None, drop, length, slice_get, take}
use Rattle.machine.specs.Steps.{all_steps, steps_of}
use Rattle.machine.specs.declared.schedule.items.Item.{Item}
use Rattle.machine.specs.declared.schedule.items.Step.{Step}
use Rattle.machine.specs.declared.schedule.place.Place.{Place}

abbrev pub steps_of_item : Option Item → List Step
steps_of_item None = []
steps_of_item (Some item) = steps_of item

-- the steps before a place: those of the items before one, and the first ones of that item
abbrev pub steps_before : List Item → ℕ → ℕ → List Step
steps_before items item steps = all_steps (take item items) ++ take steps (steps_of_item (slice_get items item))

-- the steps from a place on
abbrev pub steps_after : List Item → Place → List Step
steps_after items place = drop place.steps (steps_of_item (slice_get items place.item)) ++ all_steps (drop (suc place.item) items)

-- the step at a place
abbrev pub IsStepAt : List Item → Place → Step → Type 0
IsStepAt items place step = slice_get (steps_of_item (slice_get items place.item)) place.steps ≡ Some step

-- this number of steps lie between two places
abbrev pub IsReached : List Item → Place → ℕ → Place → Type 0
IsReached items from made place =
    steps_before items place.item place.steps ≡ steps_before items from.item from.steps ++ take made (steps_after items from)

-- a place of the schedule: at one of its items, or behind the last, and behind no more steps than the item has
pub record IsPlaceOf (items : List Item) (place : Place) : Type 0 where
  pub item : place.item ≤ length items
  pub steps : place.steps ≤ length (steps_of_item (slice_get items place.item))

-- these steps lie between two places
pub record Leads (items : List Item) (from place : Place) (steps : List Step) : Type 0 where
  pub before : steps_before items place.item place.steps ≡ steps_before items from.item from.steps ++ steps
  pub after : steps_after items from ≡ steps ++ steps_after items place
