-- The hart steps of a schedule are counted.
use Rattle.std.proofs.Common.{◌≡◌, ℕ, zero, suc, ◌+◌, List, [], ◌∷◌, ◌++◌, length, replicate, refl, sym, ap, ◌∙◌}
use Rattle.std.proofs.lemmas.List.{length-append}
use Rattle.std.proofs.lemmas.List.Sums.{sum_by-cons}
use Rattle.std.proofs.lemmas.List.Elements.{filter-append}
use Rattle.machine.specs.Grammar.{hart_steps as count_of_hart_steps, steps_in}
use Rattle.machine.specs.Steps.{all_steps, steps_of}
use Rattle.machine.specs.declared.schedule.items.Item.{Item}
use Rattle.machine.specs.declared.schedule.items.Item.TheVariants as items
use Rattle.machine.specs.declared.schedule.items.Step.{Step}
use Rattle.machine.specs.declared.schedule.items.Step.TheVariants.{Hart}
use Rattle.machine.specs.Evicting.{hart_steps, is_hart_step}

pub counted : (xs ys : List Step) → length (hart_steps (xs ++ ys)) ≡ length (hart_steps xs) + length (hart_steps ys)
counted xs ys = ap (λ (l : List Step). length l) (filter-append is_hart_step xs ys) ∙ length-append (hart_steps xs) (hart_steps ys)

pub all_counted : (n h : ℕ) → length (hart_steps (replicate n (Hart h))) ≡ n
all_counted zero h = refl
all_counted (suc n) h = ap (λ (k : ℕ). suc k) (all_counted n h)

item_counted : (item : Item) → length (hart_steps (steps_of item)) ≡ steps_in item
item_counted (items.Steps hart count) = all_counted count hart
item_counted (items.Evict line) = refl

pub items_counted : (items : List Item) → length (hart_steps (all_steps items)) ≡ count_of_hart_steps items
items_counted [] = refl
items_counted (item ∷ items) =
    counted (steps_of item) (all_steps items) ∙ rw (item_counted item, items_counted items) (sym (sum_by-cons steps_in item items))
