use Rattle.std.proofs.Common.{◌≡◌, ◌<◌, ◌^◌, take}
use Rattle.machine.specs.Grammar.{hart_steps}
use Rattle.machine.proofs.schedule.limit.is_within_limit.Given as goal

abbrev pub invariant-loop-item : goal.invariant-loop-item
invariant-loop-item l = (l.total ≡ hart_steps (take l.item-index l.items)) × (l.total < 2 ^ 32)
