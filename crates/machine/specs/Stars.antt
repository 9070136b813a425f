-- The steps that a word says, by the place of its star.
use Rattle.std.specs.Prelude.{◌≡◌, ◌≤◌, ◌+◌, ℕ, List, Option, Some, None, drop, take}
use Rattle.machine.specs.Grammar.{IsNumber}
use Rattle.machine.specs.declared.schedule.items.Item.{Item}
use Rattle.machine.specs.declared.schedule.items.Item.TheVariants.{Steps, Evict}

-- the number of the hart before the star and that of its steps after it; without a star one step
abbrev pub StepsAt : List ℕ → Option ℕ → Item → Type 0
StepsAt text None (Steps hart count) = IsNumber text hart × (count ≡ 1)
StepsAt text (Some star) (Steps hart count) =
    IsNumber (take star text) hart × IsNumber (drop (star + 1) text) count × (1 ≤ count)
StepsAt text place (Evict line) = ⊥
