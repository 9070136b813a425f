-- The steps of a schedule.
use Rattle.std.specs.Prelude.{List, [], ◌∷◌, replicate}
use Rattle.std.specs.List.{flat_map}
use Rattle.machine.specs.declared.schedule.items.Step.{Step}
use Rattle.machine.specs.declared.schedule.items.Step.TheVariants.{Hart, Evict}
use Rattle.machine.specs.declared.schedule.items.Item.{Item}
use Rattle.machine.specs.declared.schedule.items.Item.TheVariants as items

-- the steps of an item of a schedule, and those of all of them
abbrev pub steps_of : Item → List Step
steps_of (items.Steps hart count) = replicate count (Hart hart)
steps_of (items.Evict line) = Evict line ∷ []

abbrev pub all_steps : List Item → List Step
all_steps items = flat_map steps_of items
