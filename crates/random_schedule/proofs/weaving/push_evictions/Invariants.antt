use Rattle.std.proofs.Common.{◌≡◌, ◌++◌, take}
use Rattle.random_schedule.specs.Weaving.{eviction_steps}
use Rattle.machine.specs.Steps.{all_steps}
use Rattle.random_schedule.proofs.weaving.push_evictions.Given as goal

abbrev pub invariant-loop-eviction : goal.invariant-loop-eviction
invariant-loop-eviction l = all_steps l.schedule ≡ all_steps l.initial.schedule ++ eviction_steps (take l.eviction-index l.evictions)
