-- How many steps a schedule has.
use Rattle.std.proofs.Common.{◌≡◌, ℕ, ◌+◌, List, [], ◌∷◌, ◌++◌, length, sym, ap, ◌∙◌}
use Rattle.machine.proofs.Counting.{counted, items_counted}
use Rattle.machine.specs.Evicting.{hart_steps}
use Rattle.machine.specs.Grammar.{hart_steps as count_of_hart_steps}
use Rattle.machine.specs.Steps.{all_steps}
use Rattle.machine.specs.declared.schedule.items.Item.{Item}
use Rattle.machine.specs.declared.schedule.items.Step.{Step}
use Rattle.machine.specs.declared.schedule.items.Step.TheVariants.{Hart}

-- a step of a hart more
pub step_counted : (old new : List Item) (h : ℕ) → all_steps new ≡ all_steps old ++ Hart h ∷ [] → count_of_hart_steps new ≡ count_of_hart_steps old + 1
step_counted old new h grown =
    let more : length (hart_steps (all_steps old ++ Hart h ∷ [])) ≡ length (hart_steps (all_steps old)) + 1 = counted (all_steps old) (Hart h ∷ []) in
    sym (items_counted new) ∙ ap (λ (steps : List Step). length (hart_steps steps)) grown ∙ more ∙ ap (λ (n : ℕ). n + 1) (items_counted old)
