-- An explanation has no more hart steps than the schedule of the recorded run.
use Rattle.std.proofs.Common.{◌≡◌, ℕ, ◌≤◌, List, length, take, ap, arith}
use Rattle.std.proofs.lemmas.List.{length-take}
use Rattle.witness.specs.Explains.{steps_by}
use Rattle.machine.proofs.Counting.{items_counted}
use Rattle.machine.specs.Evicting.{hart_steps}
use Rattle.machine.specs.Recorded.{RecordedView}
use Rattle.machine.specs.Grammar.{hart_steps as count_of_hart_steps}
use Rattle.machine.specs.Steps.{all_steps}
use Rattle.machine.specs.declared.schedule.items.Item.{Item}
use Rattle.machine.specs.declared.schedule.items.Step.{Step}

pub few_explained : (recorded : RecordedView) (moment : ℕ) (schedule : List Item)
    → hart_steps (all_steps schedule) ≡ take (steps_by recorded.steps moment) (hart_steps (all_steps recorded.items))
    → count_of_hart_steps schedule ≤ count_of_hart_steps recorded.items
few_explained recorded moment schedule same =
    let all : List Step = hart_steps (all_steps recorded.items) in
    let made : ℕ = steps_by recorded.steps moment in
    let taken : length (hart_steps (all_steps schedule)) ≡ length (take made all) = ap length same in
    omega (arith, items_counted schedule, taken, items_counted recorded.items, length-take made all)
