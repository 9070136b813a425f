use Rattle.std.proofs.Common.{◌≡◌, take}
use Rattle.random_schedule.specs.Weaving.{with_evictions}
use Rattle.machine.specs.Grammar.{hart_steps}
use Rattle.machine.specs.Steps.{all_steps}
use Rattle.random_schedule.proofs.weaving.weave_sorted.Given as goal

abbrev pub invariant-loop-item : goal.invariant-loop-item
invariant-loop-item l = record {
  items : l.item-items ≡ l.schedule;
  made : l.made ≡ hart_steps (take l.item-index l.item-items);
  woven : all_steps l.woven ≡ with_evictions 0 l.evictions (all_steps (take l.item-index l.item-items));
}
